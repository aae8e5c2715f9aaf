use Rattle.std.proofs.Common.{rules, SFits, w64, to_z-of_z}
use Rattle.corner_lift.proofs.Quotients.{down_scaled}
use Rattle.corner_lift.proofs.paired.LaneSum.quotient_down.Goals as goal

pub returns-then-is_within_sum : goal.returns-then-is_within_sum
returns-then-is_within_sum c scale some =
    let row = c.args.self in
    let quotient = c.in_ok-quotient.quotient in
    let fits : SFits w64 quotient = search rules in
    let sum_fits : SFits w64 row.sum = search rules in
    let whole_fits : SFits w64 row.whole = search rules in
    let within = rw (to_z-of_z fits, to_z-of_z sum_fits, to_z-of_z whole_fits) at (c.is_within_sum.ensures c.if-is_within_sum.true) in
    rw (to_z-of_z fits) (down_scaled row.sum row.whole quotient scale some (within, c.in_ok-quotient.ensures.less))
