use Rattle.std.proofs.Common.{rules, ◌≡◌, SFits, w64, ◌-ℤ◌, ◌*ℤ◌, ◌<ℤ◌, to_z, of_z, to_z-of_z, arith}
use mir.Syntax.{w128}
use Rattle.lift_poly.proofs.Ring.{linear}
use Rattle.lift_model.specs.Model.{row_at}
use Rattle.corner_lift.specs.Corner.{corner_sum}
use Rattle.corner_lift.specs.Case.{number, row_value, row_whole}
use Rattle.corner_lift.specs.Dot.{only_at}
use Rattle.rounded_iter.proofs.Solving.{laws_of, read_wide, lane_room, mul-less, number_small, still_at, own_least, left_positive, rest_most, solved_at}
use Rattle.rounded_iter.proofs.table.Table.solve_short.Goals as goal

pub table_others-sum-requires : goal.table_others-sum-requires
table_others-sum-requires g c =
    let r = rw (← c.self.view_is) at c.requires.0 in
    rw (c.case.ensures, c.links.ensures, c.weights.ensures)
    ((record { places = r.can.read.links.laid; table = r.can.read.table; row = r.can.row }, r.can.numbers, r.corner), rw (← c.self.view_is) at c.requires.1)

pub reaches-requires : goal.reaches-requires
reaches-requires g c =
    let r = rw (← c.self.view_is) at c.requires.0 in
    let number_fits : SFits w64 (number c.args.lane.now c.args.s) = search rules in
    let sum_fits : SFits w64 c.table_others-sum.result.sum = search rules in
    let wide_sum_fits : SFits w128 c.from-sum.result = search rules in
    let whole_fits : SFits w64 c.table_others-sum.result.whole = search rules in
    let wide_whole_fits : SFits w128 c.from-whole.result = search rules in
    let sum : to_z w128 (of_z w128 c.from-sum.result) ≡ row_value c.self.inside.rows.now.case g.spans c.args.s c.args.a c.args.lane.now c.args.corner -ℤ number c.args.lane.now c.args.s *ℤ corner_sum c.self.inside.rows.now.case.d g.spans (row_at c.self.inside.rows.now.case.model c.args.s c.args.a) c.args.corner (only_at c.args.s) = read_wide _ _ _ sum_fits wide_sum_fits c.from-sum.ensures (rw c.case.ensures at c.table_others-sum.ensures.sum) in
    let whole : to_z w128 (of_z w128 c.from-whole.result) ≡ row_whole c.self.inside.rows.now.case c.args.s c.args.a -ℤ corner_sum c.self.inside.rows.now.case.d g.spans (row_at c.self.inside.rows.now.case.model c.args.s c.args.a) c.args.corner (only_at c.args.s) = read_wide _ _ _ whole_fits wide_whole_fits c.from-whole.ensures (rw c.case.ensures at c.table_others-sum.ensures.whole) in
    record { room = rw (to_z-of_z number_fits, whole) (lane_room _ c.self.inside.rows.now.case.w (row_whole c.self.inside.rows.now.case c.args.s c.args.a -ℤ corner_sum c.self.inside.rows.now.case.d g.spans (row_at c.self.inside.rows.now.case.model c.args.s c.args.a) c.args.corner (only_at c.args.s)) (row_whole c.self.inside.rows.now.case c.args.s c.args.a) (omega (arith, r.can.read.case.asked.precision.1)) (number_small (laws_of c.rows_at_corners.ensures.parameters c.rows_at_corners.ensures.numbers c.rows_at_corners.ensures.range c.rows_at_corners.ensures.rise c.corners_bound_weights.ensures.sum) c.self.inside.rows.now.case g.spans r.can.read.case r.can.read.table.inside c.args.s c.args.a r.can.row c.args.lane.now r.can.numbers) (omega (arith, linear, c.table_others-sum.ensures.least.1, (rw c.case.ensures at c.table_others-sum.ensures.whole))) (omega (arith, linear, own_least (laws_of c.rows_at_corners.ensures.parameters c.rows_at_corners.ensures.numbers c.rows_at_corners.ensures.range c.rows_at_corners.ensures.rise c.corners_bound_weights.ensures.sum) c.self.inside.rows.now.case g.spans r.can.read.case r.can.read.table.inside c.args.s c.args.a r.can.row c.args.corner)) (rw (← c.self.view_is) at c.requires.1)) }

pub returns-then-reaches : goal.returns-then-reaches
returns-then-reaches g c =
    let r = rw (← c.self.view_is) at c.requires.0 in
    let number_fits : SFits w64 (number c.args.lane.now c.args.s) = search rules in
    let sum_fits : SFits w64 c.table_others-sum.result.sum = search rules in
    let wide_sum_fits : SFits w128 c.from-sum.result = search rules in
    let whole_fits : SFits w64 c.table_others-sum.result.whole = search rules in
    let wide_whole_fits : SFits w128 c.from-whole.result = search rules in
    let sum : to_z w128 (of_z w128 c.from-sum.result) ≡ row_value c.self.inside.rows.now.case g.spans c.args.s c.args.a c.args.lane.now c.args.corner -ℤ number c.args.lane.now c.args.s *ℤ corner_sum c.self.inside.rows.now.case.d g.spans (row_at c.self.inside.rows.now.case.model c.args.s c.args.a) c.args.corner (only_at c.args.s) = read_wide _ _ _ sum_fits wide_sum_fits c.from-sum.ensures (rw c.case.ensures at c.table_others-sum.ensures.sum) in
    let whole : to_z w128 (of_z w128 c.from-whole.result) ≡ row_whole c.self.inside.rows.now.case c.args.s c.args.a -ℤ corner_sum c.self.inside.rows.now.case.d g.spans (row_at c.self.inside.rows.now.case.model c.args.s c.args.a) c.args.corner (only_at c.args.s) = read_wide _ _ _ whole_fits wide_whole_fits c.from-whole.ensures (rw c.case.ensures at c.table_others-sum.ensures.whole) in
    rw (← c.self.view_is, to_z-of_z number_fits)
    (still_at (laws_of c.rows_at_corners.ensures.parameters c.rows_at_corners.ensures.numbers c.rows_at_corners.ensures.range c.rows_at_corners.ensures.rise c.corners_bound_weights.ensures.sum) c.self.inside.rows.now.case g.spans r.can.read.case r.can.read.table.inside c.args.s c.args.a r.can.row c.args.lane.now r.can.numbers c.args.corner
    (omega (arith, linear, rw (to_z-of_z number_fits, sum, whole) at (c.reaches.ensures.enough c.if-reaches.true), mul-less (number c.args.lane.now c.args.s) (row_whole c.self.inside.rows.now.case c.args.s c.args.a) (corner_sum c.self.inside.rows.now.case.d g.spans (row_at c.self.inside.rows.now.case.model c.args.s c.args.a) c.args.corner (only_at c.args.s)))))

pub rounded_up-requires-clause-positive : goal.rounded_up-requires-clause-positive
rounded_up-requires-clause-positive g c =
    let r = rw (← c.self.view_is) at c.requires.0 in
    let number_fits : SFits w64 (number c.args.lane.now c.args.s) = search rules in
    let sum_fits : SFits w64 c.table_others-sum.result.sum = search rules in
    let wide_sum_fits : SFits w128 c.from-sum.result = search rules in
    let whole_fits : SFits w64 c.table_others-sum.result.whole = search rules in
    let wide_whole_fits : SFits w128 c.from-whole.result = search rules in
    let sum : to_z w128 (of_z w128 c.from-sum.result) ≡ row_value c.self.inside.rows.now.case g.spans c.args.s c.args.a c.args.lane.now c.args.corner -ℤ number c.args.lane.now c.args.s *ℤ corner_sum c.self.inside.rows.now.case.d g.spans (row_at c.self.inside.rows.now.case.model c.args.s c.args.a) c.args.corner (only_at c.args.s) = read_wide _ _ _ sum_fits wide_sum_fits c.from-sum.ensures (rw c.case.ensures at c.table_others-sum.ensures.sum) in
    let whole : to_z w128 (of_z w128 c.from-whole.result) ≡ row_whole c.self.inside.rows.now.case c.args.s c.args.a -ℤ corner_sum c.self.inside.rows.now.case.d g.spans (row_at c.self.inside.rows.now.case.model c.args.s c.args.a) c.args.corner (only_at c.args.s) = read_wide _ _ _ whole_fits wide_whole_fits c.from-whole.ensures (rw c.case.ensures at c.table_others-sum.ensures.whole) in
    let short : (number c.args.lane.now c.args.s *ℤ row_whole c.self.inside.rows.now.case c.args.s c.args.a) <ℤ row_value c.self.inside.rows.now.case g.spans c.args.s c.args.a c.args.lane.now c.args.corner = omega (arith, linear, rw (to_z-of_z number_fits, sum, whole) at (c.reaches.ensures.less c.if-reaches.false), mul-less (number c.args.lane.now c.args.s) (row_whole c.self.inside.rows.now.case c.args.s c.args.a) (corner_sum c.self.inside.rows.now.case.d g.spans (row_at c.self.inside.rows.now.case.model c.args.s c.args.a) c.args.corner (only_at c.args.s))) in
    rw whole (left_positive (laws_of c.rows_at_corners.ensures.parameters c.rows_at_corners.ensures.numbers c.rows_at_corners.ensures.range c.rows_at_corners.ensures.rise c.corners_bound_weights.ensures.sum) c.self.inside.rows.now.case g.spans r.can.read.case r.can.read.table.inside c.args.s c.args.a r.can.row c.args.lane.now r.can.numbers c.args.corner r.corner short)

pub rounded_up-requires-clause-most : goal.rounded_up-requires-clause-most
rounded_up-requires-clause-most g c =
    let r = rw (← c.self.view_is) at c.requires.0 in
    let number_fits : SFits w64 (number c.args.lane.now c.args.s) = search rules in
    let sum_fits : SFits w64 c.table_others-sum.result.sum = search rules in
    let wide_sum_fits : SFits w128 c.from-sum.result = search rules in
    let whole_fits : SFits w64 c.table_others-sum.result.whole = search rules in
    let wide_whole_fits : SFits w128 c.from-whole.result = search rules in
    let sum : to_z w128 (of_z w128 c.from-sum.result) ≡ row_value c.self.inside.rows.now.case g.spans c.args.s c.args.a c.args.lane.now c.args.corner -ℤ number c.args.lane.now c.args.s *ℤ corner_sum c.self.inside.rows.now.case.d g.spans (row_at c.self.inside.rows.now.case.model c.args.s c.args.a) c.args.corner (only_at c.args.s) = read_wide _ _ _ sum_fits wide_sum_fits c.from-sum.ensures (rw c.case.ensures at c.table_others-sum.ensures.sum) in
    let whole : to_z w128 (of_z w128 c.from-whole.result) ≡ row_whole c.self.inside.rows.now.case c.args.s c.args.a -ℤ corner_sum c.self.inside.rows.now.case.d g.spans (row_at c.self.inside.rows.now.case.model c.args.s c.args.a) c.args.corner (only_at c.args.s) = read_wide _ _ _ whole_fits wide_whole_fits c.from-whole.ensures (rw c.case.ensures at c.table_others-sum.ensures.whole) in
    let short : (number c.args.lane.now c.args.s *ℤ row_whole c.self.inside.rows.now.case c.args.s c.args.a) <ℤ row_value c.self.inside.rows.now.case g.spans c.args.s c.args.a c.args.lane.now c.args.corner = omega (arith, linear, rw (to_z-of_z number_fits, sum, whole) at (c.reaches.ensures.less c.if-reaches.false), mul-less (number c.args.lane.now c.args.s) (row_whole c.self.inside.rows.now.case c.args.s c.args.a) (corner_sum c.self.inside.rows.now.case.d g.spans (row_at c.self.inside.rows.now.case.model c.args.s c.args.a) c.args.corner (only_at c.args.s))) in
    rw (sum, whole) (rest_most (laws_of c.rows_at_corners.ensures.parameters c.rows_at_corners.ensures.numbers c.rows_at_corners.ensures.range c.rows_at_corners.ensures.rise c.corners_bound_weights.ensures.sum) c.self.inside.rows.now.case g.spans r.can.read.case r.can.read.table.inside c.args.s c.args.a r.can.row c.args.lane.now r.can.numbers c.args.corner r.corner short)

pub returns : goal.returns
returns g c =
    let r = rw (← c.self.view_is) at c.requires.0 in
    let number_fits : SFits w64 (number c.args.lane.now c.args.s) = search rules in
    let sum_fits : SFits w64 c.table_others-sum.result.sum = search rules in
    let wide_sum_fits : SFits w128 c.from-sum.result = search rules in
    let whole_fits : SFits w64 c.table_others-sum.result.whole = search rules in
    let wide_whole_fits : SFits w128 c.from-whole.result = search rules in
    let sum : to_z w128 (of_z w128 c.from-sum.result) ≡ row_value c.self.inside.rows.now.case g.spans c.args.s c.args.a c.args.lane.now c.args.corner -ℤ number c.args.lane.now c.args.s *ℤ corner_sum c.self.inside.rows.now.case.d g.spans (row_at c.self.inside.rows.now.case.model c.args.s c.args.a) c.args.corner (only_at c.args.s) = read_wide _ _ _ sum_fits wide_sum_fits c.from-sum.ensures (rw c.case.ensures at c.table_others-sum.ensures.sum) in
    let whole : to_z w128 (of_z w128 c.from-whole.result) ≡ row_whole c.self.inside.rows.now.case c.args.s c.args.a -ℤ corner_sum c.self.inside.rows.now.case.d g.spans (row_at c.self.inside.rows.now.case.model c.args.s c.args.a) c.args.corner (only_at c.args.s) = read_wide _ _ _ whole_fits wide_whole_fits c.from-whole.ensures (rw c.case.ensures at c.table_others-sum.ensures.whole) in
    let short : (number c.args.lane.now c.args.s *ℤ row_whole c.self.inside.rows.now.case c.args.s c.args.a) <ℤ row_value c.self.inside.rows.now.case g.spans c.args.s c.args.a c.args.lane.now c.args.corner = omega (arith, linear, rw (to_z-of_z number_fits, sum, whole) at (c.reaches.ensures.less c.if-reaches.false), mul-less (number c.args.lane.now c.args.s) (row_whole c.self.inside.rows.now.case c.args.s c.args.a) (corner_sum c.self.inside.rows.now.case.d g.spans (row_at c.self.inside.rows.now.case.model c.args.s c.args.a) c.args.corner (only_at c.args.s))) in
    let result_fits : SFits w64 c.rounded_up.result = search rules in
    rw (← c.self.view_is, to_z-of_z result_fits)
    (solved_at (laws_of c.rows_at_corners.ensures.parameters c.rows_at_corners.ensures.numbers c.rows_at_corners.ensures.range c.rows_at_corners.ensures.rise c.corners_bound_weights.ensures.sum) c.self.inside.rows.now.case g.spans r.can.read.case r.can.read.table.inside c.args.s c.args.a r.can.row c.args.lane.now r.can.numbers c.args.corner r.corner short c.rounded_up.result
    (rw (sum, whole) at c.rounded_up.ensures.0)
    (rw (sum, whole) at c.rounded_up.ensures.1))
