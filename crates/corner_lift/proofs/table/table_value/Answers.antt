use Rattle.std.proofs.Common.{rules, ◌^◌, to_z-of_z, SFits, ◌∙◌, arith}
use mir.Syntax.{w128}
use Rattle.std.proofs.lemmas.Nat.{pow_pos}
use Rattle.lift_model.specs.Model.{row_at}
use Rattle.corner_lift.specs.Case.{row_parameters, number}
use Rattle.corner_lift.proofs.Rows.{number_range}
use Rattle.corner_lift.proofs.Reading.{row_placed, corner_ends, can_sum, sum_stands, targets_inside, corner_least_at, first_total, whole_below, lane_at}
use Rattle.corner_lift.proofs.table.table_value.Goals as goal

pub corner_of-requires-2 : goal.corner_of-requires-2
corner_of-requires-2 g c = corner_ends c.premises.ensures c.args.case.now c.args.links.now g.spans c.args.weights.now c.args.s c.args.a c.w-w.ensures.case c.requires.0 c.place-place.result (row_placed c.args.case.now c.args.links.now g.spans c.args.weights.now c.args.s c.args.a c.place-place.result c.requires.0 c.place-place.ensures) c.args.corner c.requires.2

pub sum_of-requires-clause-targets : goal.sum_of-requires-clause-targets
sum_of-requires-clause-targets g c = rw (c.targets.ensures, (row_placed c.args.case.now c.args.links.now g.spans c.args.weights.now c.args.s c.args.a c.place-place.result c.requires.0 c.place-place.ensures).entries) (targets_inside c.premises.ensures c.args.case.now c.args.links.now g.spans c.args.weights.now c.args.s c.args.a c.w-w.ensures.case c.requires.0 c.place-place.result (row_placed c.args.case.now c.args.links.now g.spans c.args.weights.now c.args.s c.args.a c.place-place.result c.requires.0 c.place-place.ensures) _ c.requires.1.size)

pub sum_of-requires-clause-room : goal.sum_of-requires-clause-room
sum_of-requires-clause-room g c = rw (c.targets.ensures, (row_placed c.args.case.now c.args.links.now g.spans c.args.weights.now c.args.s c.args.a c.place-place.result c.requires.0 c.place-place.ensures).entries, c.corner_of-2.ensures) (can_sum c.premises.ensures c.args.case.now c.args.links.now g.spans c.args.weights.now c.args.s c.args.a c.w-w.ensures.case c.requires.0 c.place-place.result (row_placed c.args.case.now c.args.links.now g.spans c.args.weights.now c.args.s c.args.a c.place-place.result c.requires.0 c.place-place.ensures) c.args.corner c.requires.2 (number c.args.vec.now) (2 ^ c.args.case.now.w) (omega arith) (number_range c.args.case.now c.args.vec.now c.requires.1))

pub returns : goal.returns
returns g c =
    let fits : SFits w128 c.sum_of.result = search rules in
    let value = rw (c.targets.ensures, (row_placed c.args.case.now c.args.links.now g.spans c.args.weights.now c.args.s c.args.a c.place-place.result c.requires.0 c.place-place.ensures).entries, c.corner_of-2.ensures) at c.sum_of.ensures in
    to_z-of_z fits ∙ value ∙ sum_stands c.premises.ensures c.args.case.now c.args.links.now g.spans c.args.weights.now c.args.s c.args.a c.w-w.ensures.case c.requires.0 c.place-place.result (row_placed c.args.case.now c.args.links.now g.spans c.args.weights.now c.args.s c.args.a c.place-place.result c.requires.0 c.place-place.ensures) c.args.corner c.requires.2 (number c.args.vec.now)

-- the first corner
pub corner_of-requires : goal.corner_of-requires
corner_of-requires g c = corner_ends c.premises.ensures c.args.case.now c.args.links.now g.spans c.args.weights.now c.args.s c.args.a c.w-w.ensures.case c.requires.0 c.place-place.result (row_placed c.args.case.now c.args.links.now g.spans c.args.weights.now c.args.s c.args.a c.place-place.result c.requires.0 c.place-place.ensures) 0 (pow_pos (row_parameters c.args.case.now (row_at c.args.case.now.model c.args.s c.args.a)))

pub total_of-whole-requires-clause-weights : goal.total_of-whole-requires-clause-weights
total_of-whole-requires-clause-weights g c = rw c.corner_of.ensures (corner_least_at c.premises.ensures c.args.case.now c.args.links.now g.spans c.args.weights.now c.args.s c.args.a c.w-w.ensures.case c.requires.0 c.place-place.result (row_placed c.args.case.now c.args.links.now g.spans c.args.weights.now c.args.s c.args.a c.place-place.result c.requires.0 c.place-place.ensures) 0 (pow_pos (row_parameters c.args.case.now (row_at c.args.case.now.model c.args.s c.args.a))))

pub total_of-whole-requires-clause-room : goal.total_of-whole-requires-clause-room
total_of-whole-requires-clause-room g c = rw (c.corner_of.ensures, first_total c.premises.ensures c.args.case.now c.args.links.now g.spans c.args.weights.now c.args.s c.args.a c.w-w.ensures.case c.requires.0 c.place-place.result (row_placed c.args.case.now c.args.links.now g.spans c.args.weights.now c.args.s c.args.a c.place-place.result c.requires.0 c.place-place.ensures)) (whole_below c.premises.ensures c.args.case.now c.args.links.now g.spans c.args.weights.now c.args.s c.args.a c.w-w.ensures.case c.requires.0 c.place-place.result (row_placed c.args.case.now c.args.links.now g.spans c.args.weights.now c.args.s c.args.a c.place-place.result c.requires.0 c.place-place.ensures))

pub sum_of-requires-clause-lane : goal.sum_of-requires-clause-lane
sum_of-requires-clause-lane g c small =
    let fits : SFits w128 c.total_of-whole.result = search rules in
    let whole = to_z-of_z fits ∙ (rw c.corner_of.ensures at c.total_of-whole.ensures) ∙ first_total c.premises.ensures c.args.case.now c.args.links.now g.spans c.args.weights.now c.args.s c.args.a c.w-w.ensures.case c.requires.0 c.place-place.result (row_placed c.args.case.now c.args.links.now g.spans c.args.weights.now c.args.s c.args.a c.place-place.result c.requires.0 c.place-place.ensures) in
    rw (c.targets.ensures, (row_placed c.args.case.now c.args.links.now g.spans c.args.weights.now c.args.s c.args.a c.place-place.result c.requires.0 c.place-place.ensures).entries, c.corner_of-2.ensures) (lane_at c.premises.ensures c.args.case.now c.args.links.now g.spans c.args.weights.now c.args.s c.args.a c.w-w.ensures.case c.requires.0 c.place-place.result (row_placed c.args.case.now c.args.links.now g.spans c.args.weights.now c.args.s c.args.a c.place-place.result c.requires.0 c.place-place.ensures) c.args.vec.now c.requires.1 (rw (whole, c.w-w.ensures.value) at (c.is_narrow.ensures small)) c.args.corner c.requires.2)
