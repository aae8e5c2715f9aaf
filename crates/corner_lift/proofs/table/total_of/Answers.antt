use Rattle.std.proofs.Common.{rules, ◌≡◌, ◌+◌, ◌+ℤ◌, pos, take, slice_index_or, to_z, of_z, to_z-of_z, SFits, sym, ap₂, ◌∙◌}
use mir.Syntax.{w128}
use Rattle.corner_lift.specs.Dot.{total}
use Rattle.corner_lift.proofs.Sums.{total_more, total_fits}
use Rattle.corner_lift.proofs.table.total_of.Goals as goal

pub overflow_add-sum : goal.overflow_add-sum
overflow_add-sum c =
    let w_fits : SFits w128 (slice_index_or c.args.weights.now c.loop-weight.weight-index (pos 0)) = search rules in
    let e : to_z w128 c.loop-weight.sum-bits +ℤ to_z w128 (of_z w128 (slice_index_or c.args.weights.now c.loop-weight.weight-index (pos 0))) ≡ total (take (c.loop-weight.weight-index + 1) c.args.weights.now) =
    ap₂ ◌+ℤ◌ c.loop-weight.invariant (to_z-of_z w_fits) ∙ sym (total_more c.args.weights.now c.loop-weight.weight-index (pos 0) c.loop-weight-test.true) in
    rw e (total_fits c.args.weights.now (c.loop-weight.weight-index + 1) c.requires.weights c.requires.room)

pub loop-weight-preserved : goal.loop-weight-preserved
loop-weight-preserved c =
    let w_fits : SFits w128 (slice_index_or c.args.weights.now c.loop-weight.weight-index (pos 0)) = search rules in
    let e : to_z w128 c.loop-weight.sum-bits +ℤ to_z w128 (of_z w128 (slice_index_or c.args.weights.now c.loop-weight.weight-index (pos 0))) ≡ total (take (c.loop-weight.weight-index + 1) c.args.weights.now) =
    ap₂ ◌+ℤ◌ c.loop-weight.invariant (to_z-of_z w_fits) ∙ sym (total_more c.args.weights.now c.loop-weight.weight-index (pos 0) c.loop-weight-test.true) in
    let fits = total_fits c.args.weights.now (c.loop-weight.weight-index + 1) c.requires.weights c.requires.room in
    rw e (to_z-of_z fits)
