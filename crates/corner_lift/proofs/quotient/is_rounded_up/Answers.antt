use Rattle.std.proofs.Common.{arith, rules, SFits, w64, to_z-of_z}
use Rattle.lift_poly.proofs.Ring.{linear}
use Rattle.corner_lift.proofs.Quotients.{less_one_below}
use Rattle.corner_lift.proofs.quotient.is_rounded_up.Goals as goal

pub returns-in-Some : goal.returns-in-Some
returns-in-Some c = λ t.
    let fits : SFits w64 c.in-Some.multiple = search rules in
    let h = rw (to_z-of_z c.ranges.sum, to_z-of_z c.ranges.whole, to_z-of_z fits) at (c.is_first_from.ensures t) in
    let same = rw (to_z-of_z c.ranges.quotient, to_z-of_z c.ranges.whole) at c.in-Some.ensures.1 in
    (omega (arith, linear, h.0, same), less_one_below c.args.quotient c.args.whole c.args.sum (omega (arith, linear, h.1, same)))
