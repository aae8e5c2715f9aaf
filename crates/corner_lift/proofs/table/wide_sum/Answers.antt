use Rattle.std.proofs.Common.{rules, ◌≡◌, ◌+◌, ◌+ℤ◌, ◌*ℤ◌, pos, take, slice_index_or, to_z, of_z, to_z-of_z, SFits, w64, sym, ap₂, ◌∙◌, arith}
use mir.Syntax.{w128}
use Rattle.corner_lift.specs.Case.{number}
use Rattle.corner_lift.specs.Dot.{dot}
use Rattle.corner_lift.proofs.Sums.{dot_more, sum_fits, product_room}
use Rattle.corner_lift.proofs.table.wide_sum.Goals as goal
use Rattle.corner_lift.proofs.table.wide_sum.Goals.{After-times-sum}

pub times-sum-requires : goal.times-sum-requires
times-sum-requires c =
    let w_fits : SFits w128 (slice_index_or c.args.weights.now c.loop-j.j (pos 0)) = search rules in
    let n_fits : SFits w64 (slice_index_or c.args.vec.now (slice_index_or c.args.targets.now c.loop-j.j 0) (pos 0)) = search rules in
    rw (to_z-of_z w_fits, to_z-of_z n_fits) (product_room (number c.args.vec.now) c.args.weights.now c.args.targets.now c.requires.room c.loop-j.j (pos 0) 0 c.loop-j-test.true)

summed : (c : After-times-sum) → to_z w128 c.loop-j.sum-bits +ℤ to_z w128 (of_z w128 c.times-sum.result) ≡ dot (number c.args.vec.now) (take (c.loop-j.j + 1) c.args.weights.now) (take (c.loop-j.j + 1) c.args.targets.now)
summed c =
    let w_fits : SFits w128 (slice_index_or c.args.weights.now c.loop-j.j (pos 0)) = search rules in
    let n_fits : SFits w64 (slice_index_or c.args.vec.now (slice_index_or c.args.targets.now c.loop-j.j 0) (pos 0)) = search rules in
    let p_fits : SFits w128 c.times-sum.result = search rules in
    let more = dot_more (number c.args.vec.now) c.args.weights.now c.args.targets.now c.loop-j.j (pos 0) 0 (omega (arith, c.loop-j-test.true, c.requires.room.sizes)) c.loop-j-test.true in
    let product = to_z-of_z p_fits ∙ c.times-sum.ensures ∙ ap₂ ◌*ℤ◌ (to_z-of_z w_fits) (to_z-of_z n_fits) in
    ap₂ ◌+ℤ◌ c.loop-j.invariant product ∙ sym more

pub overflow_add-sum : goal.overflow_add-sum
overflow_add-sum c = rw (summed c) (sum_fits (number c.args.vec.now) c.args.weights.now c.args.targets.now c.requires.room (c.loop-j.j + 1))

pub loop-j-preserved : goal.loop-j-preserved
loop-j-preserved c =
    let fits = sum_fits (number c.args.vec.now) c.args.weights.now c.args.targets.now c.requires.room (c.loop-j.j + 1) in
    rw (summed c) (to_z-of_z fits)
