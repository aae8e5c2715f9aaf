use Rattle.std.proofs.Common.{rules, pos, slice_index_or, SFits, w64, refl}
use mir.Syntax.{w128}
use Rattle.corner_lift.specs.Case.{number}
use Rattle.corner_lift.proofs.InLane as lane
use Rattle.corner_lift.proofs.table.sum_in_lane.Goals as goal

pub overflow_cast-sum : goal.overflow_cast-sum
overflow_cast-sum c =
    let held : SFits w128 (slice_index_or c.args.weights.now c.loop-j.j (pos 0)) = search rules in
    lane.weight_cast (number c.args.vec.now) c.args.weights.now c.args.targets.now c.requires.room c.requires.lane c.loop-j.j c.loop-j-test.true held

pub overflow_mul-sum : goal.overflow_mul-sum
overflow_mul-sum c =
    let held : SFits w128 (slice_index_or c.args.weights.now c.loop-j.j (pos 0)) = search rules in
    let n_fits : SFits w64 (slice_index_or c.args.vec.now (slice_index_or c.args.targets.now c.loop-j.j 0) (pos 0)) = search rules in
    lane.product_in_lane (number c.args.vec.now) c.args.weights.now c.args.targets.now c.requires.room c.requires.lane c.loop-j.j c.loop-j-test.true held _ n_fits refl

pub overflow_add-sum : goal.overflow_add-sum
overflow_add-sum c =
    let held : SFits w128 (slice_index_or c.args.weights.now c.loop-j.j (pos 0)) = search rules in
    let n_fits : SFits w64 (slice_index_or c.args.vec.now (slice_index_or c.args.targets.now c.loop-j.j 0) (pos 0)) = search rules in
    lane.sum_in_lane (number c.args.vec.now) c.args.weights.now c.args.targets.now c.requires.room c.requires.lane c.loop-j.j c.loop-j-test.true held _ n_fits refl _ c.loop-j.invariant

pub loop-j-preserved : goal.loop-j-preserved
loop-j-preserved c =
    let held : SFits w128 (slice_index_or c.args.weights.now c.loop-j.j (pos 0)) = search rules in
    let n_fits : SFits w64 (slice_index_or c.args.vec.now (slice_index_or c.args.targets.now c.loop-j.j 0) (pos 0)) = search rules in
    lane.summed (number c.args.vec.now) c.args.weights.now c.args.targets.now c.requires.room c.requires.lane c.loop-j.j c.loop-j-test.true held _ n_fits refl _ c.loop-j.invariant
