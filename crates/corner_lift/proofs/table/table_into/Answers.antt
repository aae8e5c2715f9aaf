use Rattle.std.proofs.Common.{rules, to_z-of_z, SFits, ◌∙◌}
use mir.Syntax.{w128}
use Rattle.corner_lift.specs.Certificate.{mark, ranked_below}
use Rattle.corner_lift.proofs.Reading.{row_placed, corner_ends, can_count, sum_stands, targets_inside}
use Rattle.corner_lift.proofs.table.table_into.Goals as goal

pub corner_of-requires : goal.corner_of-requires
corner_of-requires g c = corner_ends c.premises.ensures c.args.case.now c.args.links.now g.spans c.args.weights.now c.args.s c.args.a c.w.ensures.case c.requires.0 c.place-place.result (row_placed c.args.case.now c.args.links.now g.spans c.args.weights.now c.args.s c.args.a c.place-place.result c.requires.0 c.place-place.ensures) c.args.corner c.requires.2

pub sum_below-requires-clause-targets : goal.sum_below-requires-clause-targets
sum_below-requires-clause-targets g c = rw (c.targets.ensures, (row_placed c.args.case.now c.args.links.now g.spans c.args.weights.now c.args.s c.args.a c.place-place.result c.requires.0 c.place-place.ensures).entries) (targets_inside c.premises.ensures c.args.case.now c.args.links.now g.spans c.args.weights.now c.args.s c.args.a c.w.ensures.case c.requires.0 c.place-place.result (row_placed c.args.case.now c.args.links.now g.spans c.args.weights.now c.args.s c.args.a c.place-place.result c.requires.0 c.place-place.ensures) _ c.requires.1)

pub sum_below-requires-clause-room : goal.sum_below-requires-clause-room
sum_below-requires-clause-room g c = rw (c.targets.ensures, (row_placed c.args.case.now c.args.links.now g.spans c.args.weights.now c.args.s c.args.a c.place-place.result c.requires.0 c.place-place.ensures).entries, c.corner_of.ensures) (can_count c.premises.ensures c.args.case.now c.args.links.now g.spans c.args.weights.now c.args.s c.args.a c.w.ensures.case c.requires.0 c.place-place.result (row_placed c.args.case.now c.args.links.now g.spans c.args.weights.now c.args.s c.args.a c.place-place.result c.requires.0 c.place-place.ensures) c.args.corner c.requires.2 (mark c.args.ranks.now) c.args.below)

pub returns : goal.returns
returns g c =
    let fits : SFits w128 c.sum_below.result = search rules in
    let value = rw (c.targets.ensures, (row_placed c.args.case.now c.args.links.now g.spans c.args.weights.now c.args.s c.args.a c.place-place.result c.requires.0 c.place-place.ensures).entries, c.corner_of.ensures) at c.sum_below.ensures in
    to_z-of_z fits ∙ value ∙ sum_stands c.premises.ensures c.args.case.now c.args.links.now g.spans c.args.weights.now c.args.s c.args.a c.w.ensures.case c.requires.0 c.place-place.result (row_placed c.args.case.now c.args.links.now g.spans c.args.weights.now c.args.s c.args.a c.place-place.result c.requires.0 c.place-place.ensures) c.args.corner c.requires.2 (ranked_below (mark c.args.ranks.now) c.args.below)
