-- Polynomials over one denominator.
use Rattle.std.specs.Prelude.{◌≡◌, ℕ, ◌<◌, ◌/◌, ◌^◌, ◌||◌, Bool, List, [], ◌∷◌, ℤ, pos, negsuc, neg_ℤ, unsigned_abs, nat_le, All, Result, Ok, Err, if◌then◌else◌}
use Rattle.std.specs.List.{list_any}
use Rattle.lift_frac.specs.Gcd.{gcd}
use Rattle.lift_frac.specs.Limits.{size_limit}
use Rattle.lift_poly.specs.Polynomial.{Term, IsPolynomial}
use Rattle.lift_poly.specs.Arithmetic.{quotient}
use Rattle.drn_expr.specs.declared.error.ExprError.{ExprError}
use Rattle.drn_expr.specs.declared.error.ExprError.TheVariants.{SharedParameter, Wide, Memory}
use Rattle.lift_poly.specs.declared.error.PolyError.{PolyError}
use Rattle.lift_poly.specs.declared.error.PolyError.TheVariants as poly

-- a polynomial over a denominator
pub record OverOne : Type 0 where
  pub terms : List Term
  pub den : ℕ

-- the greatest common divisor of a number and all coefficients
abbrev pub common_divisor : ℕ → List Term → ℕ
common_divisor number [] = number
common_divisor number (term ∷ terms) = gcd (unsigned_abs term.1) (common_divisor number terms)

-- the same fraction over its least denominator
abbrev pub lowest : List Term → ℕ → OverOne
lowest terms den =
    let divisor = common_divisor den terms in
    record { terms = quotient terms (pos divisor); den = den / divisor }

-- a coefficient's size has reached the limit
abbrev pub is_large : Term → Bool
is_large term = nat_le size_limit (unsigned_abs term.1)

-- the denominator or a coefficient's size has reached the limit
abbrev pub is_wide : OverOne → Bool
is_wide p = nat_le size_limit p.den || list_any is_large p.terms

-- the fraction over its least denominator, or Wide where that is too large
abbrev pub narrow : List Term → ℕ → Result OverOne ExprError
narrow terms den = if is_wide (lowest terms den) then Err Wide else Ok (lowest terms den)

-- how a fault of a polynomial is told of a value
abbrev pub cause_of : PolyError → ExprError
cause_of poly.SharedParameter = SharedParameter
cause_of poly.Wide = Wide
cause_of poly.Memory = Memory

-- what every `RatPoly` is: its denominator is above 0 and has no factor in common with all coefficients, and all are below the limit in size
pub record IsRatPoly (p : OverOne) : Type 0 where
  pub polynomial : IsPolynomial p.terms
  pub positive : 0 < p.den
  pub den : p.den < size_limit
  pub sizes : All (λ term. unsigned_abs term.1 < size_limit) p.terms
  pub lowest : common_divisor p.den p.terms ≡ 1

-- the same over so many names: each set holds only their places
pub record IsOver (count : ℕ) (p : OverOne) : Type 0 where
  pub value : IsRatPoly p
  pub sets : All (λ term. term.0 < 2 ^ count) p.terms

-- a size with the sign of another number, as a divisor's sign goes above the line
abbrev pub with_sign : ℤ → ℕ → ℤ
with_sign (pos n) size = pos size
with_sign (negsuc n) size = neg_ℤ (pos size)
