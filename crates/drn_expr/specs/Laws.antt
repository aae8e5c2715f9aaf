-- What a text that reads as a value stands for.
use Rattle.std.specs.Prelude.{◌≡◌, ◌<◌, ◌^◌, ℕ, ℤ, Bool, false, List, length, All, Ok, Err, bit_and, unsigned_abs, if◌then◌else◌}
use Rattle.std.specs.List.{list_any}
use Rattle.lift_frac.specs.Limits.{size_limit}
use Rattle.lift_poly.specs.Polynomial.{Term}
use Rattle.lift_poly.specs.Arithmetic.{coefficient, sum, scaled, product, support}
use Rattle.lift_poly.specs.MultiAffine.{narrow}
use Rattle.drn_expr.specs.Expansion as expanded
use Rattle.drn_expr.specs.RatPolys.{OverOne, IsRatPoly, IsOver, is_large}
use Rattle.drn_expr.specs.declared.error.ExprError.TheVariants.{Wide}
use Rattle.drn_expr.specs.Values.{reading, IsWorth}

-- it is a polynomial in lowest terms over the names
abbrev pub ReadingIsOver : Type 0
ReadingIsOver = (names : List (List ℕ)) (text : List ℕ) (p : OverOne) → reading names text ≡ Ok p → IsOver (length names) p

-- at every valuation of the names it is worth what its tree means
abbrev pub ReadingIsWorth : Type 0
ReadingIsWorth = (names : List (List ℕ)) (text : List ℕ) (p : OverOne) → reading names text ≡ Ok p → IsWorth names text p

-- a multiple of a polynomial holds no other names
abbrev pub MultiplesAreOver : Type 0
MultiplesAreOver = (count : ℕ) (by : ℤ) (terms : List Term) → All (λ term. term.0 < 2 ^ count) terms → All (λ term. term.0 < 2 ^ count) (scaled by terms)

-- ---- what an operation forms before it takes lowest terms is never too large for a polynomial

-- no coefficient of a value is too large, not only those of its terms
abbrev pub CoefficientsAreSmall : Type 0
CoefficientsAreSmall = (p : OverOne) (set : ℕ) → IsRatPoly p → unsigned_abs (coefficient set p.terms) < size_limit

-- a multiple by a number below the limit
abbrev pub MultiplesFit : Type 0
MultiplesFit = (by : ℤ) (p : OverOne) → IsRatPoly p → unsigned_abs by < size_limit → narrow (scaled by p.terms) ≡ Ok (scaled by p.terms)

-- a sum of two such multiples
abbrev pub SumsFit : Type 0
SumsFit = (a b : ℤ) (p q : OverOne) → IsRatPoly p → IsRatPoly q → unsigned_abs a < size_limit → unsigned_abs b < size_limit
    → narrow (sum (scaled a p.terms) (scaled b q.terms)) ≡ Ok (sum (scaled a p.terms) (scaled b q.terms))

-- a sum of two values' polynomials
abbrev pub PlainSumsFit : Type 0
PlainSumsFit = (p q : OverOne) → IsRatPoly p → IsRatPoly q → narrow (sum p.terms q.terms) ≡ Ok (sum p.terms q.terms)

-- a product of two that share no parameter
abbrev pub ProductsFit : Type 0
ProductsFit = (p q : OverOne) → IsRatPoly p → IsRatPoly q → bit_and (support p.terms) (support q.terms) ≡ 0 → narrow (product p.terms q.terms) ≡ Ok (product p.terms q.terms)

-- ---- order

-- the operands of a sum may be swapped
abbrev pub SumsCommute : Type 0
SumsCommute = (a b : OverOne) → expanded.sum a b ≡ expanded.sum b a

-- ---- a sum of two polynomials over 1 is in lowest terms

-- a coefficient is too large at the set of one of these terms
abbrev pub is_large_at : List Term → List Term → Bool
is_large_at terms sets = list_any (λ term. is_large (term.0, coefficient term.0 terms)) sets

-- it is Wide exactly where a coefficient is too large at a set of the right operand
abbrev pub SumsOverOne : Type 0
SumsOverOne = (a b : OverOne) → IsRatPoly a → IsRatPoly b → a.den ≡ 1 → b.den ≡ 1
    → expanded.sum a b ≡ (if is_large_at (sum a.terms b.terms) b.terms then Err Wide else Ok (record { terms = sum a.terms b.terms; den = 1 }))

-- and else it is a value
abbrev pub SumsOverOneAreValues : Type 0
SumsOverOneAreValues = (a b : OverOne) → IsRatPoly a → IsRatPoly b → is_large_at (sum a.terms b.terms) b.terms ≡ false → IsRatPoly (record { terms = sum a.terms b.terms; den = 1 })
