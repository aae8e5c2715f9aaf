use Rattle.std.proofs.Common.{◌≡◌, ◌<◌, length, slice_index_or, ap, ap₂, ◌∙◌, arith}
use Rattle.lift_grid.specs.Rectangle.{spans_of}
use Rattle.lift_model.specs.declared.blocks.FirstRow.{FirstRow}
use Rattle.lift_model.specs.Model.{ModelData}
use Rattle.lift_model.specs.Links.{Firsts, first_row, no_first, block_place, weight_count}
use Rattle.corner_lift.proofs.Filling.{block_inside, place_more, filled_more, filled_all}
use Rattle.corner_lift.proofs.table.fill.Goals as goal

pub fill_row-at-requires-clause-space : goal.fill_row-at-requires-clause-space
fill_row-at-requires-clause-space c =
    let firsts = ap (length {A = FirstRow}) c.firsts-first-items.ensures in
    let lt : c.loop-first.first-index < length c.args.links.now.firsts = omega (arith, firsts, c.loop-first-test.true) in
    let is = c.row.ensures.value ∙ ap₂ (λ (m : ModelData) (firsts : Firsts). first_row m (slice_index_or firsts c.loop-first.first-index no_first)) c.model-model.ensures.value c.firsts-first-items.ensures in
    omega (arith, c.loop-first.invariant.at, ap weight_count is, block_inside c.args.case.now.model c.args.links.now.firsts c.loop-first.first-index lt, c.requires.places.weights, c.requires.size, c.loop-first.auto.weights)

pub loop-first-preserved : goal.loop-first-preserved
loop-first-preserved c =
    let firsts = ap (length {A = FirstRow}) c.firsts-first-items.ensures in
    let lt : c.loop-first.first-index < length c.args.links.now.firsts = omega (arith, firsts, c.loop-first-test.true) in
    let is = c.row.ensures.value ∙ ap₂ (λ (m : ModelData) (firsts : Firsts). first_row m (slice_index_or firsts c.loop-first.first-index no_first)) c.model-model.ensures.value c.firsts-first-items.ensures in
    record {
      at = omega (arith, c.fill_row-at.ensures.end, c.loop-first.invariant.at, ap weight_count is, place_more c.args.case.now.model c.args.links.now.firsts c.loop-first.first-index lt);
      filled = filled_more c.args.case.now.model c.args.case.now.d (spans_of c.args.sides.now) c.args.links.now.firsts c.loop-first.first-index c.row.result.now _ _ c.loop-first.at c.fill_row-at.result lt is c.loop-first.invariant.filled c.fill_row-at.ensures.filled;
    }

pub returns : goal.returns
returns c =
    let firsts = ap (length {A = FirstRow}) c.firsts-first-items.ensures in
    let end : c.loop-first.first-index ≡ length c.args.links.now.firsts = omega (arith, firsts, c.loop-first-test.false, c.loop-first.auto.first-index-end) in
    filled_all c.args.case.now c.args.links.now c.args.sides.now c.loop-first.weights c.loop-first.at c.loop-first.first-index c.requires.sides (omega (arith, end))
    (omega (arith, c.loop-first.invariant.at, ap (block_place c.args.case.now.model c.args.links.now.firsts) end, c.requires.places.weights, c.requires.size, c.loop-first.auto.weights)) c.loop-first.invariant.filled
