use Rattle.std.proofs.Common.{rules, ◌≡◌, ◌∙◌, ap, subst, count_ones, to_z, of_z, to_z-of_z, SFits}
use mir.Syntax.{w128}
use Rattle.lift_grid.specs.Rectangle.{spans_of}
use Rattle.lift_model.specs.Model.{row_at, support}
use Rattle.corner_lift.specs.Corner.{parameter_count, corner_sum}
use Rattle.corner_lift.specs.Case.{number, IsGreatest, row_value, corner_count}
use Rattle.corner_lift.specs.Premises.{Premises}
use Rattle.corner_lift.proofs.Cases.{row_in_case, greatest_one_at, greatest_more, bounds_above, parameters_in_root, admitted_row, corners_done, greatest_range}
use Rattle.corner_lift.proofs.row.row_max.Goals as goal
use Rattle.corner_lift.proofs.row.row_max.Goals.{After-loop-corner}

pub value_at-greatest-requires-clause-row : goal.value_at-greatest-requires-clause-row
value_at-greatest-requires-clause-row c = row_in_case c.args.case.now c.model.result.now c.row-row.result.now c.args.s c.args.a c.model.ensures.value c.row-row.ensures.value c.model.ensures.case c.requires.state c.requires.choice

pub value_at-value-requires-clause-row : goal.value_at-value-requires-clause-row
value_at-value-requires-clause-row c = row_in_case c.args.case.now c.model.result.now c.row-row.result.now c.args.s c.args.a c.model.ensures.value c.row-row.ensures.value c.model.ensures.case c.requires.state c.requires.choice

pub loop-corner-init : goal.loop-corner-init
loop-corner-init c =
    let fits : SFits w128 c.value_at-greatest.result = search rules in
    let k = c.args.case.now in
    greatest_one_at (row_value k (spans_of c.args.sides.now) c.args.s c.args.a c.args.vec.now) _
    (to_z-of_z fits ∙ c.value_at-greatest.ensures ∙ ap (λ r. corner_sum k.d (spans_of c.args.sides.now) r 0 (number c.args.vec.now)) (c.row-row.ensures.value ∙ ap (λ m. row_at m c.args.s c.args.a) c.model.ensures.value))

pub loop-corner-preserved : goal.loop-corner-preserved
loop-corner-preserved c =
    let fits : SFits w128 c.greater-greatest.result = search rules in
    let value_fits : SFits w128 c.value_at-value.result = search rules in
    let k = c.args.case.now in
    let f = row_value k (spans_of c.args.sides.now) c.args.s c.args.a c.args.vec.now in
    let n = c.loop-corner.corner in
    let z = to_z w128 c.loop-corner.greatest-bits in
    let value : to_z w128 (of_z w128 c.value_at-value.result) ≡ f n = to_z-of_z value_fits ∙ c.value_at-value.ensures ∙ ap (λ r. corner_sum k.d (spans_of c.args.sides.now) r n (number c.args.vec.now)) (c.row-row.ensures.value ∙ ap (λ m. row_at m c.args.s c.args.a) c.model.ensures.value) in
    let left = c.greater-greatest.ensures.left in
    let right = rw value at c.greater-greatest.ensures.right in
    let one = rw value at c.greater-greatest.ensures.one in
    rw (to_z-of_z fits) (greatest_more f n z c.greater-greatest.result c.loop-corner.invariant left right one)

-- all corners were tried
all_tried : (c : After-loop-corner) → IsGreatest (row_value c.args.case.now (spans_of c.args.sides.now) c.args.s c.args.a c.args.vec.now) (corner_count c.args.case.now c.args.s c.args.a) (to_z w128 c.loop-corner.greatest-bits)
all_tried c =
    let k = c.args.case.now in
    let is = c.model.ensures.case in
    let ones = ap count_ones (c.support-support.ensures ∙ ap support (c.row-row.ensures.value ∙ ap (λ m. row_at m c.args.s c.args.a) c.model.ensures.value)) ∙ parameters_in_root k c.args.s c.args.a is c.requires.state c.requires.choice in
    let few = (admitted_row k c.args.s c.args.a is c.requires.state c.requires.choice).few in
    let f = row_value k (spans_of c.args.sides.now) c.args.s c.args.a c.args.vec.now in
    subst (λ n. IsGreatest f n (to_z w128 c.loop-corner.greatest-bits)) (corners_done (count_ones c.support-support.result) (parameter_count k.root (support (row_at k.model c.args.s c.args.a))) c.loop-corner.corner ones few c.loop-corner.auto.corner-end c.loop-corner-test.false) c.loop-corner.invariant

pub returns-clause-greatest : goal.returns-clause-greatest
returns-clause-greatest c = all_tried c

pub returns-clause-bound : goal.returns-clause-bound
returns-clause-bound c = bounds_above c.weights_follow.ensures.affine c.args.case.now c.args.s c.args.a c.args.sides.now c.args.vec.now c.model.ensures.case c.requires.sides (to_z w128 c.loop-corner.greatest-bits) (all_tried c)

pub returns-clause-range : goal.returns-clause-range
returns-clause-range c =
    let laws : Premises = record { affine = c.weights_follow.ensures.affine; least = c.weighted_sums_follow.ensures.least; rise = c.weighted_sums_follow.ensures.rise } in
    greatest_range laws c.args.case.now c.args.s c.args.a (corner_count c.args.case.now c.args.s c.args.a) c.args.sides.now c.args.vec.now (to_z w128 c.loop-corner.greatest-bits) c.model.ensures.case c.requires.sides c.requires.state c.requires.choice c.requires.numbers (all_tried c)
