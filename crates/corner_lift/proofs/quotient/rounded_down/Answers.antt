use Rattle.std.proofs.Common.{subst, sym, arith}
use Rattle.lift_poly.proofs.Ring.{linear}
use Rattle.corner_lift.proofs.Quotients.{IsFloor, floor_of, floor_fits, floor_is}
use Rattle.corner_lift.proofs.quotient.rounded_down.Goals as goal

floor : (c : goal.After-quotient_of) → IsFloor c.args.sum c.args.whole c.quotient_of.result
floor c = subst (λ q. IsFloor c.args.sum c.args.whole q) (sym c.quotient_of.ensures) (floor_of c.args.sum c.args.whole c.ranges.sum c.ranges.whole c.requires.sum c.requires.whole c.requires.most)

pub overflow_cast-result : goal.overflow_cast-result
overflow_cast-result c = floor_fits c.quotient_of.result (floor c).fits

pub returns-clause-least : goal.returns-clause-least
returns-clause-least c = omega (arith, linear, floor_is c.quotient_of.result (floor c).fits)

pub returns-clause-quotient : goal.returns-clause-quotient
returns-clause-quotient c = rw (floor_is c.quotient_of.result (floor c).fits) ((floor c).most, (floor c).less)
