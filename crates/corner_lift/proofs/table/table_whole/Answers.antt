use Rattle.std.proofs.Common.{rules, ◌≡◌, to_z, of_z, to_z-of_z, SFits, ◌∙◌}
use mir.Syntax.{w128}
use Rattle.std.proofs.lemmas.Nat.{pow_pos}
use Rattle.lift_model.specs.Model.{row_at}
use Rattle.corner_lift.specs.Case.{row_whole, row_parameters}
use Rattle.corner_lift.proofs.Reading.{row_placed, corner_ends, corner_least_at, whole_stands, whole_positive, whole_numbers, whole_size, whole_below}
use Rattle.corner_lift.proofs.table.table_whole.Goals as goal
use Rattle.corner_lift.proofs.table.table_whole.Goals.{After-total_of}

pub corner_of-requires : goal.corner_of-requires
corner_of-requires g c = corner_ends c.premises.ensures c.args.case.now c.args.links.now g.spans c.args.weights.now c.args.s c.args.a c.w.ensures.case c.requires c.place.result (row_placed c.args.case.now c.args.links.now g.spans c.args.weights.now c.args.s c.args.a c.place.result c.requires c.place.ensures) 0 (pow_pos (row_parameters c.args.case.now (row_at c.args.case.now.model c.args.s c.args.a)))

pub total_of-requires-clause-weights : goal.total_of-requires-clause-weights
total_of-requires-clause-weights g c = rw c.corner_of.ensures (corner_least_at c.premises.ensures c.args.case.now c.args.links.now g.spans c.args.weights.now c.args.s c.args.a c.w.ensures.case c.requires c.place.result (row_placed c.args.case.now c.args.links.now g.spans c.args.weights.now c.args.s c.args.a c.place.result c.requires c.place.ensures) 0 (pow_pos (row_parameters c.args.case.now (row_at c.args.case.now.model c.args.s c.args.a))))

pub total_of-requires-clause-room : goal.total_of-requires-clause-room
total_of-requires-clause-room g c = rw (c.corner_of.ensures, whole_stands c.premises.ensures c.args.case.now c.args.links.now g.spans c.args.weights.now c.args.s c.args.a c.w.ensures.case c.requires c.place.result (row_placed c.args.case.now c.args.links.now g.spans c.args.weights.now c.args.s c.args.a c.place.result c.requires c.place.ensures) 0 (pow_pos (row_parameters c.args.case.now (row_at c.args.case.now.model c.args.s c.args.a)))) (whole_below c.premises.ensures c.args.case.now c.args.links.now g.spans c.args.weights.now c.args.s c.args.a c.w.ensures.case c.requires c.place.result (row_placed c.args.case.now c.args.links.now g.spans c.args.weights.now c.args.s c.args.a c.place.result c.requires c.place.ensures))

whole_is : (g : _) (c : After-total_of g) → to_z w128 (of_z w128 c.total_of.result) ≡ row_whole c.args.case.now c.args.s c.args.a
whole_is g c =
    let fits : SFits w128 c.total_of.result = search rules in
    let value = rw c.corner_of.ensures at c.total_of.ensures in
    to_z-of_z fits ∙ value ∙ whole_stands c.premises.ensures c.args.case.now c.args.links.now g.spans c.args.weights.now c.args.s c.args.a c.w.ensures.case c.requires c.place.result (row_placed c.args.case.now c.args.links.now g.spans c.args.weights.now c.args.s c.args.a c.place.result c.requires c.place.ensures) 0 (pow_pos (row_parameters c.args.case.now (row_at c.args.case.now.model c.args.s c.args.a)))

pub returns-clause-value : goal.returns-clause-value
returns-clause-value g c = whole_is g c

pub returns-clause-positive : goal.returns-clause-positive
returns-clause-positive g c = rw (whole_is g c) (whole_positive c.premises.ensures c.args.case.now c.args.links.now g.spans c.args.weights.now c.args.s c.args.a c.w.ensures.case c.requires c.place.result (row_placed c.args.case.now c.args.links.now g.spans c.args.weights.now c.args.s c.args.a c.place.result c.requires c.place.ensures))

pub returns-clause-size : goal.returns-clause-size
returns-clause-size g c = rw (whole_is g c) (whole_size c.premises.ensures c.args.case.now c.args.links.now g.spans c.args.weights.now c.args.s c.args.a c.w.ensures.case c.requires c.place.result (row_placed c.args.case.now c.args.links.now g.spans c.args.weights.now c.args.s c.args.a c.place.result c.requires c.place.ensures))

pub returns-clause-room : goal.returns-clause-room
returns-clause-room g c = rw (whole_is g c) (whole_numbers c.premises.ensures c.args.case.now c.args.links.now g.spans c.args.weights.now c.args.s c.args.a c.w.ensures.case c.requires c.place.result (row_placed c.args.case.now c.args.links.now g.spans c.args.weights.now c.args.s c.args.a c.place.result c.requires c.place.ensures))
