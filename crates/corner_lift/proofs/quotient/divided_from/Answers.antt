use Rattle.std.proofs.Common.{rules, inr, SFits, w64, to_z-of_z}
use Rattle.corner_lift.proofs.quotient.divided_from.Goals as goal

pub returns-else-reaches : goal.returns-else-reaches
returns-else-reaches c =
    let fits : SFits w64 c.rounded_up.result = search rules in
    let less = rw (to_z-of_z c.ranges.number, to_z-of_z c.ranges.sum, to_z-of_z c.ranges.whole) at (c.reaches.ensures.less c.if-reaches.false) in
    rw (to_z-of_z fits) (inr (less, (rw (to_z-of_z c.ranges.sum, to_z-of_z c.ranges.whole) at c.rounded_up.ensures)))
