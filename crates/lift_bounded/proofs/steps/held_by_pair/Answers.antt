use Rattle.corner_lift.specs.Case.{IsCase}
use Rattle.lift_bounded.proofs.Stepping.{lane_held}
use Rattle.lift_bounded.proofs.steps.held_by_pair.Goals as goal

pub returns : goal.returns
returns g c =
    let k = c.args.rows.now.case in
    let row = c.in_ok-row.row in
    let found = c.in_ok-row.ensures in
    let is : IsCase k = c.w.ensures.case in
    lane_held c.rows_at_corners.ensures.range k g.spans c.args.old.now c.args.s c.args.a is c.requires.0.lifted.inside c.requires.1 c.requires.0.numbers row.sum row.whole row.scale c.quotient_down.result found.whole.1.0 found.least found.whole.1.1 c.quotient_down.ensures
