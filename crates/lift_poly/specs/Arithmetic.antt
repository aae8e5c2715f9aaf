-- The arithmetic of polynomials. A list of terms in any order stands for their sum, and `collected` is that sum as a finite map.
use Rattle.std.specs.Prelude.{ℕ, ◌==◌, List, [], ◌∷◌, ◌++◌, ℤ, pos, ◌+ℤ◌, ◌*ℤ◌, unsigned_abs, int_div, map, sum_by, nat_lt, bit_or, All, if◌then◌else◌}
use Rattle.std.specs.Int.{◌∣◌}
use Rattle.std.specs.Ordering.{int_eq}
use Rattle.lift_poly.specs.Polynomial.{Term}

-- the coefficient at a set: the sum over the terms of this set, 0 where there is none
abbrev pub coefficient : ℕ → List Term → ℤ
coefficient set [] = pos 0
coefficient set (term ∷ terms) = (if term.0 == set then term.1 else pos 0) +ℤ coefficient set terms

-- a term in front, unless its coefficient is 0
abbrev pub kept : Term → List Term → List Term
kept term terms = if int_eq term.1 (pos 0) then terms else term ∷ terms

-- a polynomial and one more term, which keeps its place by ascending set
abbrev pub with_term : Term → List Term → List Term
with_term term [] = kept term []
with_term term (first ∷ others) =
    if nat_lt term.0 first.0 then kept term (first ∷ others)
    else (if term.0 == first.0 then kept (first.0, term.1 +ℤ first.1) others else first ∷ with_term term others)

-- the polynomial that the terms sum to
abbrev pub collected : List Term → List Term
collected [] = []
collected (term ∷ terms) = with_term term (collected terms)

-- the sum of two polynomials
abbrev pub sum : List Term → List Term → List Term
sum left right = collected (left ++ right)

-- each coefficient times a number
abbrev pub times : ℤ → List Term → List Term
times by terms = map (λ term. (term.0, by *ℤ term.1)) terms

-- a polynomial times a number
abbrev pub scaled : ℤ → List Term → List Term
scaled by terms = collected (times by terms)

-- the products of one term with each of the others: sets are united and coefficients multiplied
abbrev pub products_of : Term → List Term → List Term
products_of term others = map (λ other. (bit_or term.0 other.0, term.1 *ℤ other.1)) others

-- the products of each term of the left with each of the right
abbrev pub products : List Term → List Term → List Term
products [] right = []
products (term ∷ left) right = products_of term right ++ products left right

-- the product of two polynomials
abbrev pub product : List Term → List Term → List Term
product left right = collected (products left right)

-- a polynomial over a divisor of its coefficients
abbrev pub quotient : List Term → ℤ → List Term
quotient terms by = map (λ term. (term.0, int_div term.1 by)) terms

-- the set of the parameters that occur
abbrev pub support : List Term → ℕ
support [] = 0
support (term ∷ terms) = bit_or term.0 (support terms)

-- a number divides each coefficient
abbrev pub DividesEach : ℕ → List Term → Type 0
DividesEach number terms = All (λ term. number ∣ unsigned_abs term.1) terms

-- the greatest common divisor of the coefficients; 0 where there is none, since every number divides that one
pub record IsContent (terms : List Term) (number : ℕ) : Type 0 where
  pub divides : DividesEach number terms
  pub greatest : (other : ℕ) → DividesEach other terms → other ∣ number

-- the sum of the coefficients' sizes
abbrev pub abs_sum : List Term → ℕ
abs_sum terms = sum_by (λ term. unsigned_abs term.1) terms
