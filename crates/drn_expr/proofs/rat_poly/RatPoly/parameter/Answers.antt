use Rattle.drn_expr.proofs.Calls.{parameter_poly}
use Rattle.drn_expr.proofs.rat_poly.RatPoly.parameter.Goals as goal

pub invariant_of-result : goal.invariant_of-result
invariant_of-result c = parameter_poly _ c.in_ok-poly.poly c.in_ok-poly.ensures.value c.in_ok-poly.ensures.fits.polynomial
