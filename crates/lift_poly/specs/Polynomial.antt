-- Polynomials that are affine in each parameter, and what they weigh at a valuation. All numbers are whole and have no bound: a fraction is never formed, since each weight stands over one product of denominators.
use Rattle.std.specs.Prelude.{◌≢◌, ℕ, zero, suc, ◌/◌, ◌%◌, List, [], ◌∷◌, ℤ, pos, ◌+ℤ◌, ◌*ℤ◌, map, All, if◌then◌else◌}
use Rattle.std.specs.List.Sorted.{IsStrictlyIncreasing}
use Rattle.std.specs.Ordering.{int_eq}

-- A set of parameters, as a number whose bit i tells whether parameter i is in it, and the coefficient of the product of these parameters. A polynomial is a list of terms.
abbrev pub Term : Type 0
Term = ℕ × ℤ

-- what every polynomial keeps: it is a finite map from sets to numbers that aren't 0, by ascending set
pub record IsPolynomial (terms : List Term) : Type 0 where
  pub ascending : IsStrictlyIncreasing (map (λ term. term.0) terms)
  pub coefficients : All (λ term. term.1 ≢ pos 0) terms

-- the value of each declared parameter, in declared order: a numerator and a denominator above 0
abbrev pub Valuation : Type 0
Valuation = List (ℤ × ℤ)

-- what a parameter brings to a product: its numerator where it is in the set, else its denominator
abbrev pub factor : ℕ → ℤ × ℤ → ℤ
factor zero value = value.1
factor (suc bit) value = value.0

-- the product of the set's parameters, times the product of all denominators
abbrev pub monomial : Valuation → ℕ → ℤ
monomial [] set = pos 1
monomial (value ∷ values) set = factor (set % 2) value *ℤ monomial values (set / 2)

-- the value of a polynomial, times the product of all denominators
abbrev pub weight : Valuation → List Term → ℤ
weight v [] = pos 0
weight v (term ∷ terms) = term.1 *ℤ monomial v term.0 +ℤ weight v terms

-- the product of all denominators
abbrev pub denominator : Valuation → ℤ
denominator [] = pos 1
denominator (value ∷ values) = value.1 *ℤ denominator values

-- the polynomial of a number: one term of the empty set, or none for 0
abbrev pub constant : ℤ → List Term
constant number = if int_eq number (pos 0) then [] else (0, number) ∷ []
