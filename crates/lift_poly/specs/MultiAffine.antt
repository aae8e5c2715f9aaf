-- The polynomials that `MultiAffine` holds, and what its calls answer.
use Rattle.std.specs.Prelude.{◌<◌, ◌==◌, Bool, List, unsigned_abs, nat_le, bit_and, All, Result, Ok, Err, if◌then◌else◌}
use Rattle.std.specs.List.{list_any}
use Rattle.lift_poly.specs.Limits.{set_limit, term_limit}
use Rattle.lift_poly.specs.Polynomial.{Term, IsPolynomial}
use Rattle.lift_poly.specs.Arithmetic.{product, support}
use Rattle.lift_poly.specs.declared.error.PolyError.{PolyError}
use Rattle.lift_poly.specs.declared.error.PolyError.TheVariants.{SharedParameter, Wide}

-- a polynomial with indexes of parameters and sizes of coefficients below their limits
pub record IsMultiAffine (terms : List Term) : Type 0 where
  pub polynomial : IsPolynomial terms
  pub sets : All (λ term. term.0 < set_limit) terms
  pub sizes : All (λ term. unsigned_abs term.1 < term_limit) terms

-- the coefficient's size has reached the limit
abbrev pub is_wide : Term → Bool
is_wide term = nat_le term_limit (unsigned_abs term.1)

-- a polynomial, or Wide where a coefficient is too large
abbrev pub narrow : List Term → Result (List Term) PolyError
narrow terms = if list_any is_wide terms then Err Wide else Ok terms

-- the product of two polynomials; SharedParameter where a parameter occurs in both, and else Wide where a coefficient is too large
abbrev pub product_answer : List Term → List Term → Result (List Term) PolyError
product_answer left right = if bit_and (support left) (support right) == 0 then narrow (product left right) else Err SharedParameter
