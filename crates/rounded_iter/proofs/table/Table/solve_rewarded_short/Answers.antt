use Rattle.std.proofs.Common.{rules, refl, ◌≡◌, ◌^◌, SFits, w64, ◌-ℤ◌, ◌*ℤ◌, to_z, of_z, to_z-of_z, ◌∙◌, arith}
use mir.Syntax.{w128}
use Rattle.lift_poly.proofs.Ring.{linear}
use Rattle.lift_model.specs.Model.{row_at}
use Rattle.corner_lift.specs.Corner.{corner_sum}
use Rattle.corner_lift.specs.Case.{number, row_value, row_whole}
use Rattle.corner_lift.specs.Dot.{only_at}
use Rattle.float_guess.specs.Rule.{added}
use Rattle.rounded_iter.specs.Reward.{rest_of}
use Rattle.rounded_iter.proofs.Solving.{laws_of, read_wide, lane_room, whole_positive}
use Rattle.rounded_iter.proofs.Leaving.{price_least, price_most, can_pay}
use Rattle.rounded_iter.proofs.Rewarding.{added_range, room_of, can_leave, least_over_solves, solves_by}
use Rattle.rounded_iter.proofs.table.Table.solve_rewarded_short.Goals as goal

pub plus-rest-requires-clause-right : goal.plus-rest-requires-clause-right
plus-rest-requires-clause-right g c =
    let r = rw (← c.self.view_is) at c.requires.0 in
    let k = c.self.inside.rows.now.case in
    let narrow = rw (← c.self.view_is) at c.requires.1.0 in
    let price = rw (← c.self.view_is) at c.requires.1.1.0 in
    let range = added_range k c.self.inside.rule.ends c.args.s in
    let positive = whole_positive (laws_of c.rows_at_corners.ensures.parameters c.rows_at_corners.ensures.numbers c.rows_at_corners.ensures.range c.rows_at_corners.ensures.rise c.corners_bound_weights.ensures.sum) k g.spans r.can.read.case r.can.read.table.inside c.args.s c.args.a r.can.row in
    let full = row_whole k c.args.s c.args.a in
    let room = room_of (2 ^ k.w) full full refl positive (lane_room (2 ^ k.w) k.w full full (omega (arith, r.can.read.case.asked.precision.1)) (omega arith) (omega (arith, linear, positive)) (omega (arith, linear)) narrow) in
    let leave = can_leave (laws_of c.rows_at_corners.ensures.parameters c.rows_at_corners.ensures.numbers c.rows_at_corners.ensures.range c.rows_at_corners.ensures.rise c.corners_bound_weights.ensures.sum) k g.spans r.can.read.case r.can.read.table.inside c.args.s c.args.a r.can.row c.args.lane.now r.can.numbers c.args.corner r.corner (added k c.self.inside.rule.ends c.args.s) range.0 range.1 room in
    rw (to_z-of_z c.ranges.price, price) (price_least _ _ _ _ _ _ leave, omega (arith, linear, price_most _ _ _ _ _ _ leave, room))

pub least_over-requires : goal.least_over-requires
least_over-requires g c =
    let r = rw (← c.self.view_is) at c.requires.0 in
    let k = c.self.inside.rows.now.case in
    let narrow = rw (← c.self.view_is) at c.requires.1.0 in
    let price = rw (← c.self.view_is) at c.requires.1.1.0 in
    let range = added_range k c.self.inside.rule.ends c.args.s in
    let positive = whole_positive (laws_of c.rows_at_corners.ensures.parameters c.rows_at_corners.ensures.numbers c.rows_at_corners.ensures.range c.rows_at_corners.ensures.rise c.corners_bound_weights.ensures.sum) k g.spans r.can.read.case r.can.read.table.inside c.args.s c.args.a r.can.row in
    let full = row_whole k c.args.s c.args.a in
    let room = room_of (2 ^ k.w) full full refl positive (lane_room (2 ^ k.w) k.w full full (omega (arith, r.can.read.case.asked.precision.1)) (omega arith) (omega (arith, linear, positive)) (omega (arith, linear)) narrow) in
    let leave = can_leave (laws_of c.rows_at_corners.ensures.parameters c.rows_at_corners.ensures.numbers c.rows_at_corners.ensures.range c.rows_at_corners.ensures.rise c.corners_bound_weights.ensures.sum) k g.spans r.can.read.case r.can.read.table.inside c.args.s c.args.a r.can.row c.args.lane.now r.can.numbers c.args.corner r.corner (added k c.self.inside.rule.ends c.args.s) range.0 range.1 room in
    let number_fits : SFits w64 (number c.args.lane.now c.args.s) = search rules in
    let top_fits : SFits w64 c.self.inside.top = search rules in
    let sum_fits : SFits w64 c.table_others-sum.result.sum = search rules in
    let wide_sum_fits : SFits w128 c.from.result = search rules in
    let whole_fits : SFits w64 c.table_others-sum.result.whole = search rules in
    let wide_whole_fits : SFits w128 c.from-2.result = search rules in
    let rest_fits : SFits w128 c.plus-rest.result = search rules in
    let own = corner_sum k.d g.spans (row_at k.model c.args.s c.args.a) c.args.corner (only_at c.args.s) in
    let sum : to_z w128 (of_z w128 c.from.result) ≡ row_value k g.spans c.args.s c.args.a c.args.lane.now c.args.corner -ℤ number c.args.lane.now c.args.s *ℤ own = read_wide _ _ _ sum_fits wide_sum_fits c.from.ensures (rw c.case.ensures at c.table_others-sum.ensures.sum) in
    let left : to_z w128 (of_z w128 c.from-2.result) ≡ full -ℤ own = read_wide _ _ _ whole_fits wide_whole_fits c.from-2.ensures (rw c.case.ensures at c.table_others-sum.ensures.whole) in
    let due = to_z-of_z c.ranges.price ∙ price in
    let rest : to_z w128 (of_z w128 c.plus-rest.result) ≡ rest_of (number c.args.lane.now c.args.s) (added k c.self.inside.rule.ends c.args.s) (row_value k g.spans c.args.s c.args.a c.args.lane.now c.args.corner) full own = omega (arith, linear, to_z-of_z rest_fits, c.plus-rest.ensures, sum, due) in
    rw (to_z-of_z number_fits, to_z-of_z top_fits, c.self.invariant, rest, left) (can_pay _ _ _ _ _ _ leave)

pub returns : goal.returns
returns g c =
    let r = rw (← c.self.view_is) at c.requires.0 in
    let k = c.self.inside.rows.now.case in
    let narrow = rw (← c.self.view_is) at c.requires.1.0 in
    let price = rw (← c.self.view_is) at c.requires.1.1.0 in
    let range = added_range k c.self.inside.rule.ends c.args.s in
    let positive = whole_positive (laws_of c.rows_at_corners.ensures.parameters c.rows_at_corners.ensures.numbers c.rows_at_corners.ensures.range c.rows_at_corners.ensures.rise c.corners_bound_weights.ensures.sum) k g.spans r.can.read.case r.can.read.table.inside c.args.s c.args.a r.can.row in
    let full = row_whole k c.args.s c.args.a in
    let room = room_of (2 ^ k.w) full full refl positive (lane_room (2 ^ k.w) k.w full full (omega (arith, r.can.read.case.asked.precision.1)) (omega arith) (omega (arith, linear, positive)) (omega (arith, linear)) narrow) in
    let leave = can_leave (laws_of c.rows_at_corners.ensures.parameters c.rows_at_corners.ensures.numbers c.rows_at_corners.ensures.range c.rows_at_corners.ensures.rise c.corners_bound_weights.ensures.sum) k g.spans r.can.read.case r.can.read.table.inside c.args.s c.args.a r.can.row c.args.lane.now r.can.numbers c.args.corner r.corner (added k c.self.inside.rule.ends c.args.s) range.0 range.1 room in
    let number_fits : SFits w64 (number c.args.lane.now c.args.s) = search rules in
    let top_fits : SFits w64 c.self.inside.top = search rules in
    let sum_fits : SFits w64 c.table_others-sum.result.sum = search rules in
    let wide_sum_fits : SFits w128 c.from.result = search rules in
    let whole_fits : SFits w64 c.table_others-sum.result.whole = search rules in
    let wide_whole_fits : SFits w128 c.from-2.result = search rules in
    let rest_fits : SFits w128 c.plus-rest.result = search rules in
    let own = corner_sum k.d g.spans (row_at k.model c.args.s c.args.a) c.args.corner (only_at c.args.s) in
    let sum : to_z w128 (of_z w128 c.from.result) ≡ row_value k g.spans c.args.s c.args.a c.args.lane.now c.args.corner -ℤ number c.args.lane.now c.args.s *ℤ own = read_wide _ _ _ sum_fits wide_sum_fits c.from.ensures (rw c.case.ensures at c.table_others-sum.ensures.sum) in
    let left : to_z w128 (of_z w128 c.from-2.result) ≡ full -ℤ own = read_wide _ _ _ whole_fits wide_whole_fits c.from-2.ensures (rw c.case.ensures at c.table_others-sum.ensures.whole) in
    let due = to_z-of_z c.ranges.price ∙ price in
    let rest : to_z w128 (of_z w128 c.plus-rest.result) ≡ rest_of (number c.args.lane.now c.args.s) (added k c.self.inside.rule.ends c.args.s) (row_value k g.spans c.args.s c.args.a c.args.lane.now c.args.corner) full own = omega (arith, linear, to_z-of_z rest_fits, c.plus-rest.ensures, sum, due) in
    let rewards = rw (← c.self.view_is) at c.requires.1.1.1 in
    let fits : SFits w64 c.least_over.result = search rules in
    let least = rw (to_z-of_z number_fits, to_z-of_z top_fits, c.self.invariant, rest, left) at c.least_over.ensures in
    rw (← c.self.view_is, to_z-of_z fits)
    (solves_by (laws_of c.rows_at_corners.ensures.parameters c.rows_at_corners.ensures.numbers c.rows_at_corners.ensures.range c.rows_at_corners.ensures.rise c.corners_bound_weights.ensures.sum) k g.spans r.can.read.case r.can.read.table.inside c.args.s c.args.a r.can.row c.args.lane.now r.can.numbers c.args.corner r.corner (added k c.self.inside.rule.ends c.args.s) c.self.inside.rule.ends rewards refl c.least_over.result
    (least_over_solves (laws_of c.rows_at_corners.ensures.parameters c.rows_at_corners.ensures.numbers c.rows_at_corners.ensures.range c.rows_at_corners.ensures.rise c.corners_bound_weights.ensures.sum) k g.spans r.can.read.case r.can.read.table.inside c.args.s c.args.a r.can.row c.args.lane.now r.can.numbers c.args.corner r.corner (added k c.self.inside.rule.ends c.args.s) c.least_over.result least))
