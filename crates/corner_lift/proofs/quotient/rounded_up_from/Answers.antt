use Rattle.std.proofs.Common.{rules, SFits, w64, to_z-of_z}
use Rattle.corner_lift.proofs.quotient.rounded_up_from.Goals as goal

pub returns-in-Some : goal.returns-in-Some
returns-in-Some c =
    let fits : SFits w64 c.in-Some.least = search rules in
    rw (to_z-of_z fits) (rw (to_z-of_z c.ranges.number, to_z-of_z c.ranges.sum, to_z-of_z c.ranges.whole) at c.in-Some.ensures)

pub returns-in-None : goal.returns-in-None
returns-in-None c =
    let fits : SFits w64 c.divided_from.result = search rules in
    rw (to_z-of_z fits) (rw (to_z-of_z c.ranges.number, to_z-of_z c.ranges.sum, to_z-of_z c.ranges.whole) at c.divided_from.ensures)
