use Rattle.std.proofs.Common.{◌*◌, ◌∷◌, [], ◌∙◌, ap, pos}
use Rattle.region_tree.proofs.Shapes.{lane_filled}
use Rattle.region_tree.proofs.pools.Pools.of_model.Goals as goal

pub returns : goal.returns
returns c =
    let states = c.states-states.ensures.value in
    record {
      values = lane_filled c.in_ok-filled.field-0 _ (pos 0) c.in_ok-filled.ensures ∙ ap (λ n. n ∷ []) states;
      allowed = lane_filled c.in_ok-filled-2.field-0 _ 0 c.in_ok-filled-2.ensures ∙ ap (λ n. n ∷ []) c.row_count.ensures;
      ranks = lane_filled c.in_ok-filled-3.field-0 _ 0 c.in_ok-filled-3.ensures ∙ ap (λ n. n ∷ []) states;
      picks = lane_filled c.in_ok-filled-4.field-0 _ 0 c.in_ok-filled-4.ensures ∙ ap (λ n. n ∷ []) states;
      work = lane_filled c.in_ok-filled-5.field-0 _ 0 c.in_ok-filled-5.ensures ∙ ap (λ n. 2 * n ∷ []) states;
    }
