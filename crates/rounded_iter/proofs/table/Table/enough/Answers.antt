use Rattle.std.proofs.Common.{rules, SFits, w64, to_z-of_z, ◌∙◌}
use Rattle.corner_lift.specs.Case.{number}
use Rattle.rounded_iter.proofs.Solving.{laws_of, same_number, some_corner, top_solved, only_inside, only_solved, whole_positive}
use Rattle.rounded_iter.proofs.table.Table.enough.Goals as goal

pub returns-then-number-self : goal.returns-then-number-self
returns-then-number-self g c =
    let r = rw (← c.self.view_is) at c.requires in
    let number_fits : SFits w64 (number c.args.lane.now c.args.s) = search rules in
    let top_fits : SFits w64 c.self.inside.top = search rules in
    rw (← c.self.view_is, to_z-of_z number_fits)
    (top_solved (laws_of c.rows_at_corners.ensures.parameters c.rows_at_corners.ensures.numbers c.rows_at_corners.ensures.range c.rows_at_corners.ensures.rise c.corners_bound_weights.ensures.sum) c.self.inside.rows.now.case g.spans r.read.case r.read.table.inside c.args.s c.args.a r.row c.args.lane.now r.numbers _ (some_corner (laws_of c.rows_at_corners.ensures.parameters c.rows_at_corners.ensures.numbers c.rows_at_corners.ensures.range c.rows_at_corners.ensures.rise c.corners_bound_weights.ensures.sum) c.self.inside.rows.now.case g.spans r.read.case r.read.table.inside c.args.s c.args.a r.row) (same_number (number c.args.lane.now c.args.s) c.self.inside.top number_fits top_fits c.if-number-self.true ∙ c.self.invariant))

pub bounds-lane-target : goal.bounds-lane-target
bounds-lane-target g c =
    let r = rw (← c.self.view_is) at c.requires in
    only_inside (laws_of c.rows_at_corners.ensures.parameters c.rows_at_corners.ensures.numbers c.rows_at_corners.ensures.range c.rows_at_corners.ensures.rise c.corners_bound_weights.ensures.sum) c.self.inside.rows.now.case g.spans r.read.case r.read.table.inside c.args.s c.args.a r.row c.args.lane.now r.numbers c.self.inside.rule.corner c.in-Some.target c.in-Some.ensures

pub returns-in-Some : goal.returns-in-Some
returns-in-Some g c =
    let r = rw (← c.self.view_is) at c.requires in
    let fits : SFits w64 c.more_extreme.result = search rules in
    let number_fits : SFits w64 (number c.args.lane.now c.args.s) = search rules in
    let target_fits : SFits w64 (number c.args.lane.now c.in-Some.target) = search rules in
    rw (← c.self.view_is, to_z-of_z fits)
    (only_solved (laws_of c.rows_at_corners.ensures.parameters c.rows_at_corners.ensures.numbers c.rows_at_corners.ensures.range c.rows_at_corners.ensures.rise c.corners_bound_weights.ensures.sum) c.self.inside.rows.now.case g.spans r.read.case r.read.table.inside c.args.s c.args.a r.row c.args.lane.now r.numbers c.self.inside.rule.corner c.in-Some.target c.in-Some.ensures (whole_positive (laws_of c.rows_at_corners.ensures.parameters c.rows_at_corners.ensures.numbers c.rows_at_corners.ensures.range c.rows_at_corners.ensures.rise c.corners_bound_weights.ensures.sum) c.self.inside.rows.now.case g.spans r.read.case r.read.table.inside c.args.s c.args.a r.row) c.more_extreme.result (rw (to_z-of_z number_fits, to_z-of_z target_fits) at c.more_extreme.ensures))
