use Rattle.std.proofs.Common.{rules, SFits, w64, to_z-of_z, ◌^◌, arith}
use Rattle.lift_poly.proofs.Ring.{linear}
use Rattle.corner_lift.specs.Case.{number}
use Rattle.rounded_iter.proofs.Solving.{laws_of}
use Rattle.rounded_iter.proofs.Rewarding.{added_range, room_of, can_leave, least_over_solves, solves_by}
use Rattle.rounded_iter.proofs.table.Table.solve_rewarded.Goals as goal

pub table_corner-at-requires : goal.table_corner-at-requires
table_corner-at-requires g c =
    let r = rw (← c.self.view_is) at c.requires.0 in
    (r.can.read.table, (r.can.row, (r.corner, r.can.numbers)))

pub least_at-requires : goal.least_at-requires
least_at-requires g c =
    let r = rw (← c.self.view_is) at c.requires.0 in
    let k = c.self.inside.rows.now.case in
    let number_fits : SFits w64 (number c.args.lane.now c.args.s) = search rules in
    let top_fits : SFits w64 c.self.inside.top = search rules in
    let reward = rw (← c.self.view_is) at c.requires.1.0 in
    let range = added_range k c.self.inside.rule.ends c.args.s in
    let found = c.table_corner-at.ensures in
    let room = room_of (2 ^ k.w) _ _ found.whole.value found.whole.positive (found.whole.room (2 ^ k.w) (omega arith)) in
    rw (to_z-of_z number_fits, to_z-of_z c.ranges.reward, to_z-of_z top_fits, c.self.invariant, found.sum, found.whole.value, found.own)
    (can_leave (laws_of c.rows_at_corners.ensures.parameters c.rows_at_corners.ensures.numbers c.rows_at_corners.ensures.range c.rows_at_corners.ensures.rise c.corners_bound_weights.ensures.sum) k g.spans r.can.read.case r.can.read.table.inside c.args.s c.args.a r.can.row c.args.lane.now r.can.numbers c.args.corner r.corner c.args.reward (omega (arith, linear, reward, range.0)) (omega (arith, linear, reward, range.1)) room)

pub returns : goal.returns
returns g c =
    let r = rw (← c.self.view_is) at c.requires.0 in
    let k = c.self.inside.rows.now.case in
    let number_fits : SFits w64 (number c.args.lane.now c.args.s) = search rules in
    let top_fits : SFits w64 c.self.inside.top = search rules in
    let fits : SFits w64 c.least_at.result = search rules in
    let reward = rw (← c.self.view_is) at c.requires.1.0 in
    let rewards = rw (← c.self.view_is) at c.requires.1.1 in
    let found = c.table_corner-at.ensures in
    let least = rw (to_z-of_z number_fits, to_z-of_z c.ranges.reward, to_z-of_z top_fits, c.self.invariant, found.sum, found.whole.value, found.own) at c.least_at.ensures in
    rw (← c.self.view_is, to_z-of_z fits)
    (solves_by (laws_of c.rows_at_corners.ensures.parameters c.rows_at_corners.ensures.numbers c.rows_at_corners.ensures.range c.rows_at_corners.ensures.rise c.corners_bound_weights.ensures.sum) k g.spans r.can.read.case r.can.read.table.inside c.args.s c.args.a r.can.row c.args.lane.now r.can.numbers c.args.corner r.corner c.args.reward c.self.inside.rule.ends rewards reward c.least_at.result
    (least_over_solves (laws_of c.rows_at_corners.ensures.parameters c.rows_at_corners.ensures.numbers c.rows_at_corners.ensures.range c.rows_at_corners.ensures.rise c.corners_bound_weights.ensures.sum) k g.spans r.can.read.case r.can.read.table.inside c.args.s c.args.a r.can.row c.args.lane.now r.can.numbers c.args.corner r.corner c.args.reward c.least_at.result least))
