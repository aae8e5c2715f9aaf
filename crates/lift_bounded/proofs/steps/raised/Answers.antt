use Rattle.std.proofs.Common.{rules, SFits, w64, to_z-of_z}
use Rattle.lift_bounded.proofs.steps.raised.Goals as goal

pub returns-in-Some : goal.returns-in-Some
returns-in-Some g c =
    let fits : SFits w64 c.in-Some.least = search rules in
    rw (to_z-of_z fits) (rw (to_z-of_z c.ranges.number) at c.in-Some.ensures)

pub returns-in-None : goal.returns-in-None
returns-in-None g c =
    let fits : SFits w64 c.raised_by_row.result = search rules in
    rw (to_z-of_z fits) (rw (to_z-of_z c.ranges.number) at c.raised_by_row.ensures)
