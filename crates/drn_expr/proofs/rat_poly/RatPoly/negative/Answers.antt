use Rattle.std.proofs.Common.{◌≡◌, negsuc, Err, arith, rules}
use Rattle.lift_poly.specs.Arithmetic.{scaled}
use Rattle.drn_expr.specs.RatPolys.{cause_of}
use Rattle.drn_expr.proofs.Calls.{over, given, negative_poly, multiple_refused}
use Rattle.drn_expr.proofs.rat_poly.RatPoly.negative.Goals as goal

pub returns-in_err-poly : goal.returns-in_err-poly
returns-in_err-poly c =
    let e : c.from_residual.result ≡ Err (cause_of c.in_err-poly.field-0.0) = search rules in
    multiple_refused c.operations_fit.ensures.multiples c.in_err-poly.field-0.0 (negsuc 0) (over c.self.inside.poly c.self.inside.den) _ _ c.self.invariant (omega arith) (λ _. c.in_err-poly.ensures.answer) e

pub invariant_of-result : goal.invariant_of-result
invariant_of-result c =
    negative_poly c.coefficients_follow.ensures.kept c.self.inside.poly c.in_ok-poly.poly c.self.inside.den (given c.in_ok-poly.poly (scaled (negsuc 0) c.self.inside.poly) (λ _. c.in_ok-poly.ensures.answer)) c.in_ok-poly.ensures.fits.polynomial c.self.invariant
