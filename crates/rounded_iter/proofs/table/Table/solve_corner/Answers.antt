use Rattle.std.proofs.Common.{rules, ◌≡◌, SFits, w64, ◌-ℤ◌, ◌*ℤ◌, ◌<ℤ◌, to_z, of_z, to_z-of_z, ap, ap₂, ◌∙◌, arith}
use mir.Syntax.{w128}
use Rattle.lift_poly.proofs.Ring.{linear, le_from_test, mul-nonneg}
use Rattle.lift_model.specs.Model.{row_at}
use Rattle.corner_lift.specs.Corner.{corner_sum}
use Rattle.corner_lift.specs.Case.{number, row_value, row_whole, engine_limit}
use Rattle.corner_lift.specs.Dot.{only_at}
use Rattle.rounded_iter.proofs.Solving.{laws_of, lt_from_test, read_product, less_fits, part_room, number_small, still_at, own_least, own_most, left_positive, rest_least, rest_most, solved_at, n_least}
use Rattle.rounded_iter.proofs.table.Table.solve_corner.Goals as goal

pub times-requires : goal.times-requires
times-requires g c =
    let r = rw (← c.self.view_is) at c.requires in
    let number_fits : SFits w64 (number c.args.lane.now c.args.s) = search rules in
    let whole_fits : SFits w128 c.table_corner-sum.result.whole = search rules in
    record { room = rw (to_z-of_z number_fits, to_z-of_z whole_fits) (c.table_corner-sum.ensures.whole.room _ (number_small (laws_of c.rows_at_corners.ensures.parameters c.rows_at_corners.ensures.numbers c.rows_at_corners.ensures.range c.rows_at_corners.ensures.rise c.corners_bound_weights.ensures.sum) c.self.inside.rows.now.case g.spans r.can.read.case r.can.read.table.inside c.args.s c.args.a r.can.row c.args.lane.now r.can.numbers)) }

pub returns-then-sum-times : goal.returns-then-sum-times
returns-then-sum-times g c =
    let r = rw (← c.self.view_is) at c.requires in
    let number_fits : SFits w64 (number c.args.lane.now c.args.s) = search rules in
    let whole_fits : SFits w128 c.table_corner-sum.result.whole = search rules in
    let sum_fits : SFits w128 c.table_corner-sum.result.sum = search rules in
    let product_fits : SFits w128 c.times.result = search rules in
    let product = read_product (number c.args.lane.now c.args.s) c.table_corner-sum.result.whole c.times.result number_fits whole_fits product_fits c.times.ensures in
    let whole = ap (λ n. number c.args.lane.now c.args.s *ℤ n) c.table_corner-sum.ensures.whole.value in
    rw (← c.self.view_is, to_z-of_z number_fits)
    (still_at (laws_of c.rows_at_corners.ensures.parameters c.rows_at_corners.ensures.numbers c.rows_at_corners.ensures.range c.rows_at_corners.ensures.rise c.corners_bound_weights.ensures.sum) c.self.inside.rows.now.case g.spans r.can.read.case r.can.read.table.inside c.args.s c.args.a r.can.row c.args.lane.now r.can.numbers c.args.corner
    (omega (arith, linear, to_z-of_z sum_fits, c.table_corner-sum.ensures.sum, product, whole, le_from_test (to_z w128 (of_z w128 c.table_corner-sum.result.sum)) (to_z w128 (of_z w128 c.times.result)) c.if-sum-times.true)))

pub table_corner-sum-requires : goal.table_corner-sum-requires
table_corner-sum-requires g c =
    let r = rw (← c.self.view_is) at c.requires in
    (r.can.read.table, (r.can.row, (r.corner, r.can.numbers)))

pub times-requires-2 : goal.times-requires-2
times-requires-2 g c =
    let r = rw (← c.self.view_is) at c.requires in
    let number_fits : SFits w64 (number c.args.lane.now c.args.s) = search rules in
    let whole_fits : SFits w128 c.table_corner-sum.result.whole = search rules in
    let own_fits : SFits w128 c.table_corner-sum.result.own = search rules in
    record { room = rw (to_z-of_z number_fits, to_z-of_z own_fits, c.table_corner-sum.ensures.own) (part_room _ _ _ engine_limit (own_least (laws_of c.rows_at_corners.ensures.parameters c.rows_at_corners.ensures.numbers c.rows_at_corners.ensures.range c.rows_at_corners.ensures.rise c.corners_bound_weights.ensures.sum) c.self.inside.rows.now.case g.spans r.can.read.case r.can.read.table.inside c.args.s c.args.a r.can.row c.args.corner) (own_most (laws_of c.rows_at_corners.ensures.parameters c.rows_at_corners.ensures.numbers c.rows_at_corners.ensures.range c.rows_at_corners.ensures.rise c.corners_bound_weights.ensures.sum) c.self.inside.rows.now.case g.spans r.can.read.case r.can.read.table.inside c.args.s c.args.a r.can.row c.args.corner r.corner) (rw c.table_corner-sum.ensures.whole.value at (c.table_corner-sum.ensures.whole.room _ (number_small (laws_of c.rows_at_corners.ensures.parameters c.rows_at_corners.ensures.numbers c.rows_at_corners.ensures.range c.rows_at_corners.ensures.rise c.corners_bound_weights.ensures.sum) c.self.inside.rows.now.case g.spans r.can.read.case r.can.read.table.inside c.args.s c.args.a r.can.row c.args.lane.now r.can.numbers)))) }

pub overflow_sub-sum : goal.overflow_sub-sum
overflow_sub-sum g c =
    let r = rw (← c.self.view_is) at c.requires in
    let number_fits : SFits w64 (number c.args.lane.now c.args.s) = search rules in
    let whole_fits : SFits w128 c.table_corner-sum.result.whole = search rules in
    let sum_fits : SFits w128 c.table_corner-sum.result.sum = search rules in
    let product_fits : SFits w128 c.times.result = search rules in
    let own_fits : SFits w128 c.table_corner-sum.result.own = search rules in
    let own_product_fits : SFits w128 c.times-2.result = search rules in
    let product = read_product (number c.args.lane.now c.args.s) c.table_corner-sum.result.whole c.times.result number_fits whole_fits product_fits c.times.ensures in
    let whole = ap (λ n. number c.args.lane.now c.args.s *ℤ n) c.table_corner-sum.ensures.whole.value in
    let own_product = read_product (number c.args.lane.now c.args.s) c.table_corner-sum.result.own c.times-2.result number_fits own_fits own_product_fits c.times-2.ensures ∙ ap (λ n. number c.args.lane.now c.args.s *ℤ n) c.table_corner-sum.ensures.own in
    let short : (number c.args.lane.now c.args.s *ℤ row_whole c.self.inside.rows.now.case c.args.s c.args.a) <ℤ row_value c.self.inside.rows.now.case g.spans c.args.s c.args.a c.args.lane.now c.args.corner = omega (arith, linear, to_z-of_z sum_fits, c.table_corner-sum.ensures.sum, product, whole, lt_from_test (to_z w128 (of_z w128 c.table_corner-sum.result.sum)) (to_z w128 (of_z w128 c.times.result)) c.if-sum-times.false) in
    rw (to_z-of_z sum_fits, own_product) (less_fits _ _ sum_fits (mul-nonneg _ _ (n_least (laws_of c.rows_at_corners.ensures.parameters c.rows_at_corners.ensures.numbers c.rows_at_corners.ensures.range c.rows_at_corners.ensures.rise c.corners_bound_weights.ensures.sum) c.self.inside.rows.now.case g.spans r.can.read.case r.can.read.table.inside c.args.s c.args.a r.can.row c.args.lane.now r.can.numbers) (own_least (laws_of c.rows_at_corners.ensures.parameters c.rows_at_corners.ensures.numbers c.rows_at_corners.ensures.range c.rows_at_corners.ensures.rise c.corners_bound_weights.ensures.sum) c.self.inside.rows.now.case g.spans r.can.read.case r.can.read.table.inside c.args.s c.args.a r.can.row c.args.corner)) (rw (← c.table_corner-sum.ensures.sum) at (rest_least (laws_of c.rows_at_corners.ensures.parameters c.rows_at_corners.ensures.numbers c.rows_at_corners.ensures.range c.rows_at_corners.ensures.rise c.corners_bound_weights.ensures.sum) c.self.inside.rows.now.case g.spans r.can.read.case r.can.read.table.inside c.args.s c.args.a r.can.row c.args.lane.now r.can.numbers c.args.corner r.corner short)))

pub overflow_sub-whole : goal.overflow_sub-whole
overflow_sub-whole g c =
    let r = rw (← c.self.view_is) at c.requires in
    let number_fits : SFits w64 (number c.args.lane.now c.args.s) = search rules in
    let whole_fits : SFits w128 c.table_corner-sum.result.whole = search rules in
    let sum_fits : SFits w128 c.table_corner-sum.result.sum = search rules in
    let product_fits : SFits w128 c.times.result = search rules in
    let own_fits : SFits w128 c.table_corner-sum.result.own = search rules in
    let product = read_product (number c.args.lane.now c.args.s) c.table_corner-sum.result.whole c.times.result number_fits whole_fits product_fits c.times.ensures in
    let whole = ap (λ n. number c.args.lane.now c.args.s *ℤ n) c.table_corner-sum.ensures.whole.value in
    let short : (number c.args.lane.now c.args.s *ℤ row_whole c.self.inside.rows.now.case c.args.s c.args.a) <ℤ row_value c.self.inside.rows.now.case g.spans c.args.s c.args.a c.args.lane.now c.args.corner = omega (arith, linear, to_z-of_z sum_fits, c.table_corner-sum.ensures.sum, product, whole, lt_from_test (to_z w128 (of_z w128 c.table_corner-sum.result.sum)) (to_z w128 (of_z w128 c.times.result)) c.if-sum-times.false) in
    rw (to_z-of_z whole_fits, to_z-of_z own_fits, c.table_corner-sum.ensures.own) (less_fits _ _ whole_fits (own_least (laws_of c.rows_at_corners.ensures.parameters c.rows_at_corners.ensures.numbers c.rows_at_corners.ensures.range c.rows_at_corners.ensures.rise c.corners_bound_weights.ensures.sum) c.self.inside.rows.now.case g.spans r.can.read.case r.can.read.table.inside c.args.s c.args.a r.can.row c.args.corner) (let some = left_positive (laws_of c.rows_at_corners.ensures.parameters c.rows_at_corners.ensures.numbers c.rows_at_corners.ensures.range c.rows_at_corners.ensures.rise c.corners_bound_weights.ensures.sum) c.self.inside.rows.now.case g.spans r.can.read.case r.can.read.table.inside c.args.s c.args.a r.can.row c.args.lane.now r.can.numbers c.args.corner r.corner short in omega (arith, linear, some, c.table_corner-sum.ensures.whole.value)))

pub rounded_up-requires-clause-least : goal.rounded_up-requires-clause-least
rounded_up-requires-clause-least g c =
    let r = rw (← c.self.view_is) at c.requires in
    let number_fits : SFits w64 (number c.args.lane.now c.args.s) = search rules in
    let whole_fits : SFits w128 c.table_corner-sum.result.whole = search rules in
    let sum_fits : SFits w128 c.table_corner-sum.result.sum = search rules in
    let product_fits : SFits w128 c.times.result = search rules in
    let own_fits : SFits w128 c.table_corner-sum.result.own = search rules in
    let own_product_fits : SFits w128 c.times-2.result = search rules in
    let product = read_product (number c.args.lane.now c.args.s) c.table_corner-sum.result.whole c.times.result number_fits whole_fits product_fits c.times.ensures in
    let whole = ap (λ n. number c.args.lane.now c.args.s *ℤ n) c.table_corner-sum.ensures.whole.value in
    let own_product = read_product (number c.args.lane.now c.args.s) c.table_corner-sum.result.own c.times-2.result number_fits own_fits own_product_fits c.times-2.ensures ∙ ap (λ n. number c.args.lane.now c.args.s *ℤ n) c.table_corner-sum.ensures.own in
    let short : (number c.args.lane.now c.args.s *ℤ row_whole c.self.inside.rows.now.case c.args.s c.args.a) <ℤ row_value c.self.inside.rows.now.case g.spans c.args.s c.args.a c.args.lane.now c.args.corner = omega (arith, linear, to_z-of_z sum_fits, c.table_corner-sum.ensures.sum, product, whole, lt_from_test (to_z w128 (of_z w128 c.table_corner-sum.result.sum)) (to_z w128 (of_z w128 c.times.result)) c.if-sum-times.false) in
    let rest : to_z w128 (of_z w128 c.table_corner-sum.result.sum) -ℤ to_z w128 (of_z w128 c.times-2.result) ≡ row_value c.self.inside.rows.now.case g.spans c.args.s c.args.a c.args.lane.now c.args.corner -ℤ number c.args.lane.now c.args.s *ℤ corner_sum c.self.inside.rows.now.case.d g.spans (row_at c.self.inside.rows.now.case.model c.args.s c.args.a) c.args.corner (only_at c.args.s) = ap₂ ◌-ℤ◌ (to_z-of_z sum_fits ∙ c.table_corner-sum.ensures.sum) own_product in
    let rest_fits : SFits w128 (to_z w128 (of_z w128 c.table_corner-sum.result.sum) -ℤ to_z w128 (of_z w128 c.times-2.result)) = rw (to_z-of_z sum_fits, own_product) (less_fits _ _ sum_fits (mul-nonneg _ _ (n_least (laws_of c.rows_at_corners.ensures.parameters c.rows_at_corners.ensures.numbers c.rows_at_corners.ensures.range c.rows_at_corners.ensures.rise c.corners_bound_weights.ensures.sum) c.self.inside.rows.now.case g.spans r.can.read.case r.can.read.table.inside c.args.s c.args.a r.can.row c.args.lane.now r.can.numbers) (own_least (laws_of c.rows_at_corners.ensures.parameters c.rows_at_corners.ensures.numbers c.rows_at_corners.ensures.range c.rows_at_corners.ensures.rise c.corners_bound_weights.ensures.sum) c.self.inside.rows.now.case g.spans r.can.read.case r.can.read.table.inside c.args.s c.args.a r.can.row c.args.corner)) (rw (← c.table_corner-sum.ensures.sum) at (rest_least (laws_of c.rows_at_corners.ensures.parameters c.rows_at_corners.ensures.numbers c.rows_at_corners.ensures.range c.rows_at_corners.ensures.rise c.corners_bound_weights.ensures.sum) c.self.inside.rows.now.case g.spans r.can.read.case r.can.read.table.inside c.args.s c.args.a r.can.row c.args.lane.now r.can.numbers c.args.corner r.corner short))) in
    rw (to_z-of_z rest_fits, rest) (rest_least (laws_of c.rows_at_corners.ensures.parameters c.rows_at_corners.ensures.numbers c.rows_at_corners.ensures.range c.rows_at_corners.ensures.rise c.corners_bound_weights.ensures.sum) c.self.inside.rows.now.case g.spans r.can.read.case r.can.read.table.inside c.args.s c.args.a r.can.row c.args.lane.now r.can.numbers c.args.corner r.corner short)

pub rounded_up-requires-clause-positive : goal.rounded_up-requires-clause-positive
rounded_up-requires-clause-positive g c =
    let r = rw (← c.self.view_is) at c.requires in
    let number_fits : SFits w64 (number c.args.lane.now c.args.s) = search rules in
    let whole_fits : SFits w128 c.table_corner-sum.result.whole = search rules in
    let sum_fits : SFits w128 c.table_corner-sum.result.sum = search rules in
    let product_fits : SFits w128 c.times.result = search rules in
    let own_fits : SFits w128 c.table_corner-sum.result.own = search rules in
    let product = read_product (number c.args.lane.now c.args.s) c.table_corner-sum.result.whole c.times.result number_fits whole_fits product_fits c.times.ensures in
    let whole = ap (λ n. number c.args.lane.now c.args.s *ℤ n) c.table_corner-sum.ensures.whole.value in
    let short : (number c.args.lane.now c.args.s *ℤ row_whole c.self.inside.rows.now.case c.args.s c.args.a) <ℤ row_value c.self.inside.rows.now.case g.spans c.args.s c.args.a c.args.lane.now c.args.corner = omega (arith, linear, to_z-of_z sum_fits, c.table_corner-sum.ensures.sum, product, whole, lt_from_test (to_z w128 (of_z w128 c.table_corner-sum.result.sum)) (to_z w128 (of_z w128 c.times.result)) c.if-sum-times.false) in
    let left : to_z w128 (of_z w128 c.table_corner-sum.result.whole) -ℤ to_z w128 (of_z w128 c.table_corner-sum.result.own) ≡ row_whole c.self.inside.rows.now.case c.args.s c.args.a -ℤ corner_sum c.self.inside.rows.now.case.d g.spans (row_at c.self.inside.rows.now.case.model c.args.s c.args.a) c.args.corner (only_at c.args.s) = ap₂ ◌-ℤ◌ (to_z-of_z whole_fits ∙ c.table_corner-sum.ensures.whole.value) (to_z-of_z own_fits ∙ c.table_corner-sum.ensures.own) in
    let left_fits : SFits w128 (to_z w128 (of_z w128 c.table_corner-sum.result.whole) -ℤ to_z w128 (of_z w128 c.table_corner-sum.result.own)) = rw (to_z-of_z whole_fits, to_z-of_z own_fits, c.table_corner-sum.ensures.own) (less_fits _ _ whole_fits (own_least (laws_of c.rows_at_corners.ensures.parameters c.rows_at_corners.ensures.numbers c.rows_at_corners.ensures.range c.rows_at_corners.ensures.rise c.corners_bound_weights.ensures.sum) c.self.inside.rows.now.case g.spans r.can.read.case r.can.read.table.inside c.args.s c.args.a r.can.row c.args.corner) (let some = left_positive (laws_of c.rows_at_corners.ensures.parameters c.rows_at_corners.ensures.numbers c.rows_at_corners.ensures.range c.rows_at_corners.ensures.rise c.corners_bound_weights.ensures.sum) c.self.inside.rows.now.case g.spans r.can.read.case r.can.read.table.inside c.args.s c.args.a r.can.row c.args.lane.now r.can.numbers c.args.corner r.corner short in omega (arith, linear, some, c.table_corner-sum.ensures.whole.value))) in
    rw (to_z-of_z left_fits, left) (left_positive (laws_of c.rows_at_corners.ensures.parameters c.rows_at_corners.ensures.numbers c.rows_at_corners.ensures.range c.rows_at_corners.ensures.rise c.corners_bound_weights.ensures.sum) c.self.inside.rows.now.case g.spans r.can.read.case r.can.read.table.inside c.args.s c.args.a r.can.row c.args.lane.now r.can.numbers c.args.corner r.corner short)

pub rounded_up-requires-clause-most : goal.rounded_up-requires-clause-most
rounded_up-requires-clause-most g c =
    let r = rw (← c.self.view_is) at c.requires in
    let number_fits : SFits w64 (number c.args.lane.now c.args.s) = search rules in
    let whole_fits : SFits w128 c.table_corner-sum.result.whole = search rules in
    let sum_fits : SFits w128 c.table_corner-sum.result.sum = search rules in
    let product_fits : SFits w128 c.times.result = search rules in
    let own_fits : SFits w128 c.table_corner-sum.result.own = search rules in
    let own_product_fits : SFits w128 c.times-2.result = search rules in
    let product = read_product (number c.args.lane.now c.args.s) c.table_corner-sum.result.whole c.times.result number_fits whole_fits product_fits c.times.ensures in
    let whole = ap (λ n. number c.args.lane.now c.args.s *ℤ n) c.table_corner-sum.ensures.whole.value in
    let own_product = read_product (number c.args.lane.now c.args.s) c.table_corner-sum.result.own c.times-2.result number_fits own_fits own_product_fits c.times-2.ensures ∙ ap (λ n. number c.args.lane.now c.args.s *ℤ n) c.table_corner-sum.ensures.own in
    let short : (number c.args.lane.now c.args.s *ℤ row_whole c.self.inside.rows.now.case c.args.s c.args.a) <ℤ row_value c.self.inside.rows.now.case g.spans c.args.s c.args.a c.args.lane.now c.args.corner = omega (arith, linear, to_z-of_z sum_fits, c.table_corner-sum.ensures.sum, product, whole, lt_from_test (to_z w128 (of_z w128 c.table_corner-sum.result.sum)) (to_z w128 (of_z w128 c.times.result)) c.if-sum-times.false) in
    let rest : to_z w128 (of_z w128 c.table_corner-sum.result.sum) -ℤ to_z w128 (of_z w128 c.times-2.result) ≡ row_value c.self.inside.rows.now.case g.spans c.args.s c.args.a c.args.lane.now c.args.corner -ℤ number c.args.lane.now c.args.s *ℤ corner_sum c.self.inside.rows.now.case.d g.spans (row_at c.self.inside.rows.now.case.model c.args.s c.args.a) c.args.corner (only_at c.args.s) = ap₂ ◌-ℤ◌ (to_z-of_z sum_fits ∙ c.table_corner-sum.ensures.sum) own_product in
    let left : to_z w128 (of_z w128 c.table_corner-sum.result.whole) -ℤ to_z w128 (of_z w128 c.table_corner-sum.result.own) ≡ row_whole c.self.inside.rows.now.case c.args.s c.args.a -ℤ corner_sum c.self.inside.rows.now.case.d g.spans (row_at c.self.inside.rows.now.case.model c.args.s c.args.a) c.args.corner (only_at c.args.s) = ap₂ ◌-ℤ◌ (to_z-of_z whole_fits ∙ c.table_corner-sum.ensures.whole.value) (to_z-of_z own_fits ∙ c.table_corner-sum.ensures.own) in
    let rest_fits : SFits w128 (to_z w128 (of_z w128 c.table_corner-sum.result.sum) -ℤ to_z w128 (of_z w128 c.times-2.result)) = rw (to_z-of_z sum_fits, own_product) (less_fits _ _ sum_fits (mul-nonneg _ _ (n_least (laws_of c.rows_at_corners.ensures.parameters c.rows_at_corners.ensures.numbers c.rows_at_corners.ensures.range c.rows_at_corners.ensures.rise c.corners_bound_weights.ensures.sum) c.self.inside.rows.now.case g.spans r.can.read.case r.can.read.table.inside c.args.s c.args.a r.can.row c.args.lane.now r.can.numbers) (own_least (laws_of c.rows_at_corners.ensures.parameters c.rows_at_corners.ensures.numbers c.rows_at_corners.ensures.range c.rows_at_corners.ensures.rise c.corners_bound_weights.ensures.sum) c.self.inside.rows.now.case g.spans r.can.read.case r.can.read.table.inside c.args.s c.args.a r.can.row c.args.corner)) (rw (← c.table_corner-sum.ensures.sum) at (rest_least (laws_of c.rows_at_corners.ensures.parameters c.rows_at_corners.ensures.numbers c.rows_at_corners.ensures.range c.rows_at_corners.ensures.rise c.corners_bound_weights.ensures.sum) c.self.inside.rows.now.case g.spans r.can.read.case r.can.read.table.inside c.args.s c.args.a r.can.row c.args.lane.now r.can.numbers c.args.corner r.corner short))) in
    let left_fits : SFits w128 (to_z w128 (of_z w128 c.table_corner-sum.result.whole) -ℤ to_z w128 (of_z w128 c.table_corner-sum.result.own)) = rw (to_z-of_z whole_fits, to_z-of_z own_fits, c.table_corner-sum.ensures.own) (less_fits _ _ whole_fits (own_least (laws_of c.rows_at_corners.ensures.parameters c.rows_at_corners.ensures.numbers c.rows_at_corners.ensures.range c.rows_at_corners.ensures.rise c.corners_bound_weights.ensures.sum) c.self.inside.rows.now.case g.spans r.can.read.case r.can.read.table.inside c.args.s c.args.a r.can.row c.args.corner) (let some = left_positive (laws_of c.rows_at_corners.ensures.parameters c.rows_at_corners.ensures.numbers c.rows_at_corners.ensures.range c.rows_at_corners.ensures.rise c.corners_bound_weights.ensures.sum) c.self.inside.rows.now.case g.spans r.can.read.case r.can.read.table.inside c.args.s c.args.a r.can.row c.args.lane.now r.can.numbers c.args.corner r.corner short in omega (arith, linear, some, c.table_corner-sum.ensures.whole.value))) in
    rw (to_z-of_z rest_fits, rest, to_z-of_z left_fits, left) (rest_most (laws_of c.rows_at_corners.ensures.parameters c.rows_at_corners.ensures.numbers c.rows_at_corners.ensures.range c.rows_at_corners.ensures.rise c.corners_bound_weights.ensures.sum) c.self.inside.rows.now.case g.spans r.can.read.case r.can.read.table.inside c.args.s c.args.a r.can.row c.args.lane.now r.can.numbers c.args.corner r.corner short)

pub returns : goal.returns
returns g c =
    let r = rw (← c.self.view_is) at c.requires in
    let number_fits : SFits w64 (number c.args.lane.now c.args.s) = search rules in
    let whole_fits : SFits w128 c.table_corner-sum.result.whole = search rules in
    let sum_fits : SFits w128 c.table_corner-sum.result.sum = search rules in
    let product_fits : SFits w128 c.times.result = search rules in
    let own_fits : SFits w128 c.table_corner-sum.result.own = search rules in
    let own_product_fits : SFits w128 c.times-2.result = search rules in
    let result_fits : SFits w64 c.rounded_up.result = search rules in
    let product = read_product (number c.args.lane.now c.args.s) c.table_corner-sum.result.whole c.times.result number_fits whole_fits product_fits c.times.ensures in
    let whole = ap (λ n. number c.args.lane.now c.args.s *ℤ n) c.table_corner-sum.ensures.whole.value in
    let own_product = read_product (number c.args.lane.now c.args.s) c.table_corner-sum.result.own c.times-2.result number_fits own_fits own_product_fits c.times-2.ensures ∙ ap (λ n. number c.args.lane.now c.args.s *ℤ n) c.table_corner-sum.ensures.own in
    let short : (number c.args.lane.now c.args.s *ℤ row_whole c.self.inside.rows.now.case c.args.s c.args.a) <ℤ row_value c.self.inside.rows.now.case g.spans c.args.s c.args.a c.args.lane.now c.args.corner = omega (arith, linear, to_z-of_z sum_fits, c.table_corner-sum.ensures.sum, product, whole, lt_from_test (to_z w128 (of_z w128 c.table_corner-sum.result.sum)) (to_z w128 (of_z w128 c.times.result)) c.if-sum-times.false) in
    let rest : to_z w128 (of_z w128 c.table_corner-sum.result.sum) -ℤ to_z w128 (of_z w128 c.times-2.result) ≡ row_value c.self.inside.rows.now.case g.spans c.args.s c.args.a c.args.lane.now c.args.corner -ℤ number c.args.lane.now c.args.s *ℤ corner_sum c.self.inside.rows.now.case.d g.spans (row_at c.self.inside.rows.now.case.model c.args.s c.args.a) c.args.corner (only_at c.args.s) = ap₂ ◌-ℤ◌ (to_z-of_z sum_fits ∙ c.table_corner-sum.ensures.sum) own_product in
    let left : to_z w128 (of_z w128 c.table_corner-sum.result.whole) -ℤ to_z w128 (of_z w128 c.table_corner-sum.result.own) ≡ row_whole c.self.inside.rows.now.case c.args.s c.args.a -ℤ corner_sum c.self.inside.rows.now.case.d g.spans (row_at c.self.inside.rows.now.case.model c.args.s c.args.a) c.args.corner (only_at c.args.s) = ap₂ ◌-ℤ◌ (to_z-of_z whole_fits ∙ c.table_corner-sum.ensures.whole.value) (to_z-of_z own_fits ∙ c.table_corner-sum.ensures.own) in
    let rest_fits : SFits w128 (to_z w128 (of_z w128 c.table_corner-sum.result.sum) -ℤ to_z w128 (of_z w128 c.times-2.result)) = rw (to_z-of_z sum_fits, own_product) (less_fits _ _ sum_fits (mul-nonneg _ _ (n_least (laws_of c.rows_at_corners.ensures.parameters c.rows_at_corners.ensures.numbers c.rows_at_corners.ensures.range c.rows_at_corners.ensures.rise c.corners_bound_weights.ensures.sum) c.self.inside.rows.now.case g.spans r.can.read.case r.can.read.table.inside c.args.s c.args.a r.can.row c.args.lane.now r.can.numbers) (own_least (laws_of c.rows_at_corners.ensures.parameters c.rows_at_corners.ensures.numbers c.rows_at_corners.ensures.range c.rows_at_corners.ensures.rise c.corners_bound_weights.ensures.sum) c.self.inside.rows.now.case g.spans r.can.read.case r.can.read.table.inside c.args.s c.args.a r.can.row c.args.corner)) (rw (← c.table_corner-sum.ensures.sum) at (rest_least (laws_of c.rows_at_corners.ensures.parameters c.rows_at_corners.ensures.numbers c.rows_at_corners.ensures.range c.rows_at_corners.ensures.rise c.corners_bound_weights.ensures.sum) c.self.inside.rows.now.case g.spans r.can.read.case r.can.read.table.inside c.args.s c.args.a r.can.row c.args.lane.now r.can.numbers c.args.corner r.corner short))) in
    let left_fits : SFits w128 (to_z w128 (of_z w128 c.table_corner-sum.result.whole) -ℤ to_z w128 (of_z w128 c.table_corner-sum.result.own)) = rw (to_z-of_z whole_fits, to_z-of_z own_fits, c.table_corner-sum.ensures.own) (less_fits _ _ whole_fits (own_least (laws_of c.rows_at_corners.ensures.parameters c.rows_at_corners.ensures.numbers c.rows_at_corners.ensures.range c.rows_at_corners.ensures.rise c.corners_bound_weights.ensures.sum) c.self.inside.rows.now.case g.spans r.can.read.case r.can.read.table.inside c.args.s c.args.a r.can.row c.args.corner) (let some = left_positive (laws_of c.rows_at_corners.ensures.parameters c.rows_at_corners.ensures.numbers c.rows_at_corners.ensures.range c.rows_at_corners.ensures.rise c.corners_bound_weights.ensures.sum) c.self.inside.rows.now.case g.spans r.can.read.case r.can.read.table.inside c.args.s c.args.a r.can.row c.args.lane.now r.can.numbers c.args.corner r.corner short in omega (arith, linear, some, c.table_corner-sum.ensures.whole.value))) in
    rw (← c.self.view_is, to_z-of_z result_fits)
    (solved_at (laws_of c.rows_at_corners.ensures.parameters c.rows_at_corners.ensures.numbers c.rows_at_corners.ensures.range c.rows_at_corners.ensures.rise c.corners_bound_weights.ensures.sum) c.self.inside.rows.now.case g.spans r.can.read.case r.can.read.table.inside c.args.s c.args.a r.can.row c.args.lane.now r.can.numbers c.args.corner r.corner short c.rounded_up.result
    (rw (to_z-of_z rest_fits, rest, to_z-of_z left_fits, left) at c.rounded_up.ensures.0)
    (rw (to_z-of_z rest_fits, rest, to_z-of_z left_fits, left) at c.rounded_up.ensures.1))
