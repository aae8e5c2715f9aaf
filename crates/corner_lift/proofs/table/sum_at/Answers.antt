use Rattle.std.proofs.Common.{rules, ◌≡◌, ◌+◌, ◌+ℤ◌, ◌*ℤ◌, pos, take, slice_index_or, to_z, of_z, to_z-of_z, SFits, sym, ap, ap₂, ◌∙◌, arith}
use mir.Syntax.{w128}
use Rattle.corner_lift.specs.Dot.{dot, only_at}
use Rattle.corner_lift.proofs.Sums.{dot_more, sum_fits}
use Rattle.corner_lift.proofs.table.sum_at.Goals as goal
use Rattle.corner_lift.proofs.table.sum_at.Goals.{After-counted-sum}

summed : (c : After-counted-sum) → to_z w128 c.loop-j.sum-bits +ℤ to_z w128 (of_z w128 c.counted-sum.result) ≡ dot (only_at c.args.s) (take (c.loop-j.j + 1) c.args.weights.now) (take (c.loop-j.j + 1) c.args.targets.now)
summed c =
    let w_fits : SFits w128 (slice_index_or c.args.weights.now c.loop-j.j (pos 0)) = search rules in
    let p_fits : SFits w128 c.counted-sum.result = search rules in
    let more = dot_more (only_at c.args.s) c.args.weights.now c.args.targets.now c.loop-j.j (pos 0) 0 (omega (arith, c.loop-j-test.true, c.requires.sizes)) c.loop-j-test.true in
    let product = to_z-of_z p_fits ∙ c.counted-sum.ensures ∙ ap (λ n. n *ℤ only_at c.args.s (slice_index_or c.args.targets.now c.loop-j.j 0)) (to_z-of_z w_fits) in
    ap₂ ◌+ℤ◌ c.loop-j.invariant product ∙ sym more

pub overflow_add-sum : goal.overflow_add-sum
overflow_add-sum c = rw (summed c) (sum_fits (only_at c.args.s) c.args.weights.now c.args.targets.now c.requires (c.loop-j.j + 1))

pub loop-j-preserved : goal.loop-j-preserved
loop-j-preserved c =
    let fits = sum_fits (only_at c.args.s) c.args.weights.now c.args.targets.now c.requires (c.loop-j.j + 1) in
    rw (summed c) (to_z-of_z fits)
