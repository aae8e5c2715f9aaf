use Rattle.std.proofs.Common.{◌≡◌, ◌-◌, ◌*◌, ◌≤◌, ◌∷◌, [], length, ◌∙◌, ap, arith, pos, subst}
use Rattle.std.proofs.lemmas.List.{length-replicate}
use Rattle.lift_walk.specs.Sides.{end_count}
use Rattle.lift_walk.proofs.Ends.{root_ends, few_depths, few_words, words_left}
use Rattle.lift_walk.proofs.sides.sides_of_case.Goals as goal

pub overflow_mul-depths : goal.overflow_mul-depths
overflow_mul-depths c =
    let k = c.args.case.now in
    let size : length c.sides-len.result.now ≡ end_count k = ap length (rw c.root.ensures.value at c.sides-len.ensures.sides) ∙ root_ends k c.root.ensures.case in
    record { fits = few_words c.greatest_depth-depths.result (length c.sides-len.result.now) (omega (arith, c.greatest_depth-depths.ensures, few_depths k c.root.ensures.case)) (omega (arith, size, c.root.ensures.case.asked.model.parameters.0)) }

pub write_root-requires : goal.write_root-requires
write_root-requires c =
    let k = c.args.case.now in
    let size : length c.sides-len.result.now ≡ end_count k = ap length (rw c.root.ensures.value at c.sides-len.ensures.sides) ∙ root_ends k c.root.ensures.case in
    rw (c.take.ensures, c.in_ok-pool.ensures.empty) (ap (λ n. n ∷ []) (length-replicate _ _ ∙ size))

pub returns-clause-made : goal.returns-clause-made
returns-clause-made c =
    let k = c.args.case.now in
    let size : length c.sides-len.result.now ≡ end_count k = ap length (rw c.root.ensures.value at c.sides-len.ensures.sides) ∙ root_ends k c.root.ensures.case in
    let filled = length-replicate (length c.sides-len.result.now) (pos 0) in
    let left = words_left c.greatest_depth-depths.result (length c.sides-len.result.now) (end_count k) c.in_ok-pool.pool.spare size c.in_ok-pool.ensures.spare in
    record {
      lane = rw c.write_root.ensures.root (ap (λ n. n ∷ []) (root_ends k c.root.ensures.case));
      words = rw (c.write_root.ensures.root, c.take.ensures, filled) (subst (λ d. d * end_count k ≤ c.in_ok-pool.pool.spare - length c.sides-len.result.now) c.greatest_depth-depths.ensures left);
      depths = rw (c.write_root.ensures.root, c.take.ensures) (omega (arith, c.greatest_depth-depths.ensures, c.in_ok-pool.ensures.spare_lanes));
    }
