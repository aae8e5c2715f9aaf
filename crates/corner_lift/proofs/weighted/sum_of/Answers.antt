use Rattle.std.proofs.Common.{rules, ◌≡◌, ◌≤◌, ◌<◌, ◌+◌, ◌*◌, ◌^◌, ◌*ℤ◌, ◌+ℤ◌, ℕ, pos, length, slice_index_or, unsigned_abs, to_z, of_z, to_z-of_z, SFits, w64, refl, ap, ◌∙◌, arith}
use mir.Syntax.{w128}
use Rattle.corner_lift.specs.Case.{abs_sum, number}
use Rattle.corner_lift.specs.Ends.{weight_at, greatest_end}
use Rattle.corner_lift.proofs.Rows.{all_numbers}
use Rattle.corner_lift.proofs.Summing.{IsRowSummed, row_summed_more, row_summed_fits, entry_size, entry_room, number_room, part_size}
use Rattle.corner_lift.proofs.weighted.sum_of.Goals as goal
use Rattle.corner_lift.proofs.weighted.sum_of.Goals.{After-times-sum}

pow_least : (w : ℕ) → unsigned_abs (pos 0) ≤ 2 ^ w
pow_least w = omega arith

pub times-sum-requires-clause-weight : goal.times-sum-requires-clause-weight
times-sum-requires-clause-weight c =
    let room : abs_sum c.entries-entry-items.result.now * (greatest_end c.args.case.now.d c.args.ends.now ^ length c.args.ends.now * 2 ^ c.args.case.now.w) < 2 ^ 126 = rw c.entries-entry-items.ensures c.requires.room in
    let one = entry_size c.entries-entry-items.result.now c.loop-entry.entry-index c.entry-item.result c.loop-entry-test.true c.entry-item.is in
    let d_fits : SFits w64 c.grid-d.result.d = search rules in
    rw (to_z-of_z d_fits, c.grid-d.ensures.d) (entry_room _ _ _ c.args.case.now.w one room)

pub times-sum-requires-clause-room : goal.times-sum-requires-clause-room
times-sum-requires-clause-room c =
    let room : abs_sum c.entries-entry-items.result.now * (greatest_end c.args.case.now.d c.args.ends.now ^ length c.args.ends.now * 2 ^ c.args.case.now.w) < 2 ^ 126 = rw c.entries-entry-items.ensures c.requires.room in
    let one = entry_size c.entries-entry-items.result.now c.loop-entry.entry-index c.entry-item.result c.loop-entry-test.true c.entry-item.is in
    let small : unsigned_abs (slice_index_or c.args.vec.now c.entry-item.result.target (pos 0)) ≤ 2 ^ c.args.case.now.w = all_numbers (λ n. unsigned_abs n ≤ 2 ^ c.args.case.now.w) c.args.vec.now (pow_least c.args.case.now.w) c.requires.numbers c.entry-item.result.target in
    let d_fits : SFits w64 c.grid-d.result.d = search rules in
    let n_fits : SFits w64 (slice_index_or c.args.vec.now c.entry-item.result.target (pos 0)) = search rules in
    rw (to_z-of_z d_fits, to_z-of_z n_fits, c.grid-d.ensures.d) (number_room _ _ _ c.args.case.now.w _ one small room)

-- the sum with this entry
added : (c : After-times-sum) → IsRowSummed c.args.case.now.d c.args.ends.now (greatest_end c.args.case.now.d c.args.ends.now ^ length c.args.ends.now * 2 ^ c.args.case.now.w) (number c.args.vec.now) c.entries-entry-items.result.now (to_z w128 c.loop-entry.sum-bits +ℤ to_z w128 (of_z w128 c.times-sum.result)) (c.loop-entry.entry-index + 1)
added c =
    let small : unsigned_abs (slice_index_or c.args.vec.now c.entry-item.result.target (pos 0)) ≤ 2 ^ c.args.case.now.w = all_numbers (λ n. unsigned_abs n ≤ 2 ^ c.args.case.now.w) c.args.vec.now (pow_least c.args.case.now.w) c.requires.numbers c.entry-item.result.target in
    let d_fits : SFits w64 c.grid-d.result.d = search rules in
    let n_fits : SFits w64 (slice_index_or c.args.vec.now c.entry-item.result.target (pos 0)) = search rules in
    let part_fits : SFits w128 c.times-sum.result = search rules in
    let value = rw c.grid-d.ensures.d at (simp to_z-of_z at c.times-sum.ensures.value) in
    let size = rw c.grid-d.ensures.d at (simp to_z-of_z at c.times-sum.ensures.size) in
    let entry = c.entry-item.result in
    let same : slice_index_or c.args.vec.now c.entry-item.result.target (pos 0) ≡ (number c.args.vec.now) entry.target = refl in
    rw (to_z-of_z part_fits) (row_summed_more c.args.case.now.d c.args.ends.now _ (number c.args.vec.now) c.entries-entry-items.result.now c.loop-entry.entry-index entry c.loop-entry-test.true c.entry-item.is c.times-sum.result (to_z w128 c.loop-entry.sum-bits) (value ∙ ap (λ n. weight_at c.args.case.now.d c.args.ends.now entry.poly *ℤ n) same) (part_size c.times-sum.result _ _ c.args.case.now.w _ size small) c.loop-entry.invariant)

pub overflow_add-sum : goal.overflow_add-sum
overflow_add-sum c =
    let room : abs_sum c.entries-entry-items.result.now * (greatest_end c.args.case.now.d c.args.ends.now ^ length c.args.ends.now * 2 ^ c.args.case.now.w) < 2 ^ 126 = rw c.entries-entry-items.ensures c.requires.room in
    row_summed_fits c.args.case.now.d c.args.ends.now _ (number c.args.vec.now) c.entries-entry-items.result.now _ _ room (added c)

pub loop-entry-preserved : goal.loop-entry-preserved
loop-entry-preserved c =
    let room : abs_sum c.entries-entry-items.result.now * (greatest_end c.args.case.now.d c.args.ends.now ^ length c.args.ends.now * 2 ^ c.args.case.now.w) < 2 ^ 126 = rw c.entries-entry-items.ensures c.requires.room in
    let sum_fits = row_summed_fits c.args.case.now.d c.args.ends.now _ (number c.args.vec.now) c.entries-entry-items.result.now _ _ room (added c) in
    rw (to_z-of_z sum_fits) (added c)
