use Rattle.std.proofs.Common.{◌≡◌, ◌*◌, ◌<◌, unsigned_abs, FitsSigned, to_z, of_z, Err, ap, ◌∙◌, arith, rules}
use Rattle.std.specs.Int.{w128}
use Rattle.std.proofs.lemmas.Int.{to_z-of_z}
use Rattle.lift_frac.specs.Limits.{product_limit}
use Rattle.drn_expr.specs.RatPolys.{cause_of}
use Rattle.drn_expr.proofs.Calls.{over, multiple_refused, sign_size}
use Rattle.drn_expr.proofs.Sizes.{product_below}
use Rattle.drn_expr.proofs.rat_poly.RatPoly.quotient.Goals as goal
use Rattle.drn_expr.proofs.rat_poly.RatPoly.quotient.Goals.{After-unsigned_abs}

pub returns-in_err-poly : goal.returns-in_err-poly
returns-in_err-poly c =
    let e : c.from_residual.result ≡ Err (cause_of c.in_err-poly.field-0.0) = search rules in
    let fits : FitsSigned w128 c.with_sign.result = search rules in
    let by = ap unsigned_abs (to_z-of_z w128 c.with_sign.result fits ∙ c.with_sign.ensures) ∙ sign_size _ c.other.inside.den in
    multiple_refused c.operations_fit.ensures.multiples c.in_err-poly.field-0.0 (to_z w128 (of_z w128 c.with_sign.result)) (over c.self.inside.poly c.self.inside.den) _ _ c.self.invariant (omega (arith, by, c.other.invariant.den)) (λ _. c.in_err-poly.ensures.answer) e

-- the new denominator is small
small_den : (c : After-unsigned_abs) → c.from.result * c.unsigned_abs.result < product_limit
small_den c =
    let fits : FitsSigned w128 c.coefficient-number.result = search rules in
    let number = c.unsigned_abs.ensures.value ∙ ap unsigned_abs (to_z-of_z w128 c.coefficient-number.result fits ∙ c.coefficient-number.ensures) in
    product_below c.from.result c.unsigned_abs.result (omega (arith, c.from.ensures, c.self.invariant.den)) (omega (arith, number, c.operations_fit.ensures.coefficients (over c.other.inside.poly c.other.inside.den) 0 c.other.invariant))

pub overflow_mul-from : goal.overflow_mul-from
overflow_mul-from c = let small = small_den c in search rules

pub narrow-requires-clause-small : goal.narrow-requires-clause-small
narrow-requires-clause-small c = small_den c
