use Rattle.std.proofs.Common.{to_z-of_z}
use Rattle.corner_lift.specs.Case.{IsCase}
use Rattle.lift_bounded.proofs.Stepping.{lane_least, lane_raised}
use Rattle.lift_bounded.proofs.steps.raised_by_pair.Goals as goal

pub rounded_up_from-requires-clause-least : goal.rounded_up_from-requires-clause-least
rounded_up_from-requires-clause-least g c =
    let k = c.args.rows.now.case in
    let row = c.in_ok-row.row in
    let found = c.in_ok-row.ensures in
    let is : IsCase k = c.w.ensures.case in
    lane_least c.rows_at_corners.ensures.range k g.spans c.args.old.now c.args.s c.args.a is c.requires.0.lifted.inside c.requires.1.0 c.requires.0.numbers row.sum row.scale found.whole.1.0 found.greatest

pub returns : goal.returns
returns g c =
    let k = c.args.rows.now.case in
    let row = c.in_ok-row.row in
    let found = c.in_ok-row.ensures in
    let is : IsCase k = c.w.ensures.case in
    lane_raised c.rows_at_corners.ensures.range k g.spans c.args.old.now c.args.s c.args.a is c.requires.0.lifted.inside c.requires.1.0 c.requires.0.numbers c.args.number row.sum row.whole row.scale c.rounded_up_from.result found.whole.1.0 found.greatest found.whole.1.1 (rw (to_z-of_z c.ranges.number) at c.rounded_up_from.ensures)
