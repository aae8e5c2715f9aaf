use Rattle.std.proofs.Common.{rules, ◌≡◌, ◌≤◌, ◌<◌, ◌+◌, ◌*◌, ◌^◌, ◌*ℤ◌, ◌+ℤ◌, ℕ, zero, suc, pos, Bool, true, false, cond, nat_lt, List, [], ◌∷◌, length, slice_index_or, unsigned_abs, to_z, of_z, to_z-of_z, SFits, w64, refl, sym, ap, subst, ◌∙◌, arith}
use mir.Syntax.{w128}
use Rattle.std.proofs.lemmas.Nat.{pow_pos}
use Rattle.lift_model.specs.declared.entry.Entry.{Entry}
use Rattle.corner_lift.specs.Case.{abs_sum}
use Rattle.corner_lift.specs.Certificate.{mark, ranked_below}
use Rattle.corner_lift.specs.Ends.{weight_at, greatest_end}
use Rattle.corner_lift.proofs.Summing.{IsRowSummed, row_summed_more, row_summed_fits, entry_size, entry_room, number_room, part_size}
use Rattle.corner_lift.proofs.weighted.sum_below.Goals as goal
use Rattle.corner_lift.proofs.weighted.sum_below.Goals.{After-times-sum}

one_size : (b : Bool) (w : ℕ) → unsigned_abs (cond b (pos 1) (pos 0)) ≤ 2 ^ w
one_size true w = pow_pos w
one_size false w = omega arith

-- in range the value past the end plays no part
in_range : (marks : List ℕ) (s : ℕ) → s < length marks → slice_index_or marks s 0 ≡ mark marks s
in_range [] s lt = absurd (omega arith)
in_range (m ∷ marks) zero lt = refl
in_range (m ∷ marks) (suc s) lt = in_range marks s (omega arith)

pub times-sum-requires-clause-weight : goal.times-sum-requires-clause-weight
times-sum-requires-clause-weight c =
    let room : abs_sum c.entries-entry-items.result.now * (greatest_end c.args.case.now.d c.args.ends.now ^ length c.args.ends.now * 2 ^ c.args.case.now.w) < 2 ^ 126 = rw c.entries-entry-items.ensures c.requires.room in
    let one = entry_size c.entries-entry-items.result.now c.loop-entry.entry-index c.entry-item.result c.loop-entry-test.true c.entry-item.is in
    let d_fits : SFits w64 c.grid-d.result.d = search rules in
    rw (to_z-of_z d_fits, c.grid-d.ensures.d) (entry_room _ _ _ c.args.case.now.w one room)

pub times-sum-requires-clause-room : goal.times-sum-requires-clause-room
times-sum-requires-clause-room c =
    let room : abs_sum c.entries-entry-items.result.now * (greatest_end c.args.case.now.d c.args.ends.now ^ length c.args.ends.now * 2 ^ c.args.case.now.w) < 2 ^ 126 = rw c.entries-entry-items.ensures c.requires.room in
    let one = entry_size c.entries-entry-items.result.now c.loop-entry.entry-index c.entry-item.result c.loop-entry-test.true c.entry-item.is in
    let small : unsigned_abs (c.one_if-counts.result) ≤ 2 ^ c.args.case.now.w = rw c.one_if-counts.ensures (one_size _ c.args.case.now.w) in
    let d_fits : SFits w64 c.grid-d.result.d = search rules in
    let n_fits : SFits w64 (c.one_if-counts.result) = search rules in
    rw (to_z-of_z d_fits, to_z-of_z n_fits, c.grid-d.ensures.d) (number_room _ _ _ c.args.case.now.w _ one small room)

-- the sum with this entry
added : (c : After-times-sum) → IsRowSummed c.args.case.now.d c.args.ends.now (greatest_end c.args.case.now.d c.args.ends.now ^ length c.args.ends.now * 2 ^ c.args.case.now.w) (ranked_below (mark c.args.ranks.now) c.args.below) c.entries-entry-items.result.now (to_z w128 c.loop-entry.sum-bits +ℤ to_z w128 (of_z w128 c.times-sum.result)) (c.loop-entry.entry-index + 1)
added c =
    let target : c.entry-item.result.target < length c.args.ranks.now = let entry = c.entry-item.result in let at = rw c.entries-entry-items.ensures at c.entry-item.is in let lt = rw c.entries-entry-items.ensures at c.loop-entry-test.true in subst (λ (e : Entry). e.target < length c.args.ranks.now) (sym at) (c.requires.targets c.loop-entry.entry-index entry lt) in
    let small : unsigned_abs (c.one_if-counts.result) ≤ 2 ^ c.args.case.now.w = rw c.one_if-counts.ensures (one_size _ c.args.case.now.w) in
    let d_fits : SFits w64 c.grid-d.result.d = search rules in
    let n_fits : SFits w64 (c.one_if-counts.result) = search rules in
    let part_fits : SFits w128 c.times-sum.result = search rules in
    let value = rw c.grid-d.ensures.d at (simp to_z-of_z at c.times-sum.ensures.value) in
    let size = rw c.grid-d.ensures.d at (simp to_z-of_z at c.times-sum.ensures.size) in
    let entry = c.entry-item.result in
    let same : c.one_if-counts.result ≡ (ranked_below (mark c.args.ranks.now) c.args.below) entry.target = c.one_if-counts.ensures ∙ ap (λ r. cond (nat_lt r c.args.below) (pos 1) (pos 0)) (in_range c.args.ranks.now c.entry-item.result.target target) in
    rw (to_z-of_z part_fits) (row_summed_more c.args.case.now.d c.args.ends.now _ (ranked_below (mark c.args.ranks.now) c.args.below) c.entries-entry-items.result.now c.loop-entry.entry-index entry c.loop-entry-test.true c.entry-item.is c.times-sum.result (to_z w128 c.loop-entry.sum-bits) (value ∙ ap (λ n. weight_at c.args.case.now.d c.args.ends.now entry.poly *ℤ n) same) (part_size c.times-sum.result _ _ c.args.case.now.w _ size small) c.loop-entry.invariant)

pub overflow_add-sum : goal.overflow_add-sum
overflow_add-sum c =
    let room : abs_sum c.entries-entry-items.result.now * (greatest_end c.args.case.now.d c.args.ends.now ^ length c.args.ends.now * 2 ^ c.args.case.now.w) < 2 ^ 126 = rw c.entries-entry-items.ensures c.requires.room in
    row_summed_fits c.args.case.now.d c.args.ends.now _ (ranked_below (mark c.args.ranks.now) c.args.below) c.entries-entry-items.result.now _ _ room (added c)

pub loop-entry-preserved : goal.loop-entry-preserved
loop-entry-preserved c =
    let room : abs_sum c.entries-entry-items.result.now * (greatest_end c.args.case.now.d c.args.ends.now ^ length c.args.ends.now * 2 ^ c.args.case.now.w) < 2 ^ 126 = rw c.entries-entry-items.ensures c.requires.room in
    let sum_fits = row_summed_fits c.args.case.now.d c.args.ends.now _ (ranked_below (mark c.args.ranks.now) c.args.below) c.entries-entry-items.result.now _ _ room (added c) in
    rw (to_z-of_z sum_fits) (added c)
