use Rattle.std.proofs.Common.{◌∷◌, [], ◌∙◌, ap, pos}
use Rattle.region_tree.proofs.Collapses.{found_of}
use Rattle.region_tree.proofs.Shapes.{lane_filled}
use Rattle.region_tree.proofs.room.Room.make.Goals as goal

pub returns-clause-made : goal.returns-clause-made
returns-clause-made c =
    let k = c.args.case.now in
    record {
      lanes = record {
        collapse = found_of k.model c.in_ok-build.field-0 (rw c.model-2.ensures.value at c.in_ok-build.ensures);
        weights = lane_filled c.in_ok-filled.field-0 _ (pos 0) c.in_ok-filled.ensures ∙ ap (λ n. n ∷ []) c.weights_len.ensures;
        pools = rw c.model.ensures.value at c.in_ok-of_model.ensures;
        decided = c.in_ok-decided_of_case.ensures;
      };
      sides = c.in_ok-sides_of_case.ensures.made;
    }
