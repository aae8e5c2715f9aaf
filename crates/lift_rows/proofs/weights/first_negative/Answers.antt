use Rattle.std.proofs.Common.{◌∙◌, rules, arith, SFits, w64, to_z-of_z}
use mir.Syntax.{w128}
use Rattle.std.proofs.lemmas.Int.{ints}
use Rattle.lift_model.specs.Model.{row_at}
use Rattle.lift_rows.proofs.Negatives.{first_here, pairs_asked, weights_room, corners_asked, none_at-more, none_before-more}
use Rattle.lift_rows.proofs.weights.first_negative.Goals as goal

pub raw_weight-weight-requires-clause-pairs : goal.raw_weight-weight-requires-clause-pairs
raw_weight-weight-requires-clause-pairs c = rw (c.sides.ensures.value, c.model-in-loop-corner.ensures.value) (pairs_asked c.args.asked.now c.model.ensures.asked)

pub raw_weight-weight-requires-clause-few : goal.raw_weight-weight-requires-clause-few
raw_weight-weight-requires-clause-few c = rw (c.sides.ensures.same, c.model-in-loop-corner.ensures.value) c.requires.few

pub raw_weight-weight-requires-clause-corner : goal.raw_weight-weight-requires-clause-corner
raw_weight-weight-requires-clause-corner c =
    let k = c.args.asked.now in
    let corners = corners_asked c.rows_at_corners.ensures.bits k c.args.s c.args.a _ _ _ c.model.ensures.asked c.requires.state c.requires.choice c.model.ensures.value c.row-row.ensures.value c.support.ensures c.requires.few in
    rw (c.sides.ensures.same, c.model-in-loop-corner.ensures.value) (rw corners at c.loop-corner-test.true)

pub raw_weight-weight-requires-clause-narrow : goal.raw_weight-weight-requires-clause-narrow
raw_weight-weight-requires-clause-narrow c =
    let k = c.args.asked.now in
    let d_fits : SFits w64 c.d.result = search rules in
    rw (to_z-of_z d_fits, c.d.ensures.value, c.sides.ensures.same, c.model-in-loop-corner.ensures.value) (weights_room k (row_at k.model c.args.s c.args.a) c.requires.narrow)

pub returns-then-weight-lt0-clause-first : goal.returns-then-weight-lt0-clause-first
returns-then-weight-lt0-clause-first c =
    let k = c.args.asked.now in
    let d_fits : SFits w64 c.d.result = search rules in
    let fits : SFits w128 c.raw_weight-weight.result = search rules in
    let weight = rw (to_z-of_z d_fits, c.d.ensures.value, c.sides.ensures.same, c.model-in-loop-corner.ensures.value) at c.raw_weight-weight.ensures.value in
    let corners = corners_asked c.rows_at_corners.ensures.bits k c.args.s c.args.a _ _ _ c.model.ensures.asked c.requires.state c.requires.choice c.model.ensures.value c.row-row.ensures.value c.support.ensures c.requires.few in
    let entry_in = rw (c.entries.ensures, c.row-row.ensures.value, c.model.ensures.value) at c.loop-entry-test.true in
    first_here k _ _ _ _ entry_in (rw corners at c.loop-corner-test.true) (to_z-of_z fits ∙ weight) (omega (arith, ints)) c.loop-entry.invariant c.loop-corner.invariant

pub loop-corner-preserved : goal.loop-corner-preserved
loop-corner-preserved c =
    let k = c.args.asked.now in
    let d_fits : SFits w64 c.d.result = search rules in
    let fits : SFits w128 c.raw_weight-weight.result = search rules in
    let weight = rw (to_z-of_z d_fits, c.d.ensures.value, c.sides.ensures.same, c.model-in-loop-corner.ensures.value) at c.raw_weight-weight.ensures.value in
    none_at-more k (row_at k.model c.args.s c.args.a) c.loop-entry.entry c.loop-corner.corner c.loop-corner.invariant (omega (arith, ints, to_z-of_z fits ∙ weight))

pub loop-entry-preserved : goal.loop-entry-preserved
loop-entry-preserved c =
    let k = c.args.asked.now in
    let corners = corners_asked c.rows_at_corners.ensures.bits k c.args.s c.args.a _ _ _ c.model.ensures.asked c.requires.state c.requires.choice c.model.ensures.value c.row-row.ensures.value c.support.ensures c.requires.few in
    let all = rw corners at c.loop-corner-test.false in
    none_before-more k (row_at k.model c.args.s c.args.a) c.loop-entry.entry c.loop-entry.invariant (λ c' lt. c.loop-corner.invariant c' (omega (arith, all)))

pub returns-clause-first : goal.returns-clause-first
returns-clause-first c =
    let all = rw (c.entries.ensures, c.row-row.ensures.value, c.model.ensures.value) at c.loop-entry-test.false in
    λ j c' lt corner. c.loop-entry.invariant j c' (omega (arith, all)) corner
