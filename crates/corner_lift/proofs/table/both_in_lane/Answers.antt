use Rattle.std.proofs.Common.{rules, pos, slice_index_or, SFits, w64, refl}
use mir.Syntax.{w128}
use Rattle.corner_lift.specs.Case.{number}
use Rattle.corner_lift.proofs.InLane as lane
use Rattle.corner_lift.proofs.table.both_in_lane.Goals as goal

pub overflow_cast-first : goal.overflow_cast-first
overflow_cast-first c =
    let held : SFits w128 (slice_index_or c.args.low.now c.loop-j.j (pos 0)) = search rules in
    lane.weight_cast (number c.args.vec.now) c.args.low.now c.args.targets.now c.requires.low.0 c.requires.low.1 c.loop-j.j c.loop-j-test.true held

pub overflow_mul-first : goal.overflow_mul-first
overflow_mul-first c =
    let held : SFits w128 (slice_index_or c.args.low.now c.loop-j.j (pos 0)) = search rules in
    let n_fits : SFits w64 (slice_index_or c.args.vec.now (slice_index_or c.args.targets.now c.loop-j.j 0) (pos 0)) = search rules in
    lane.product_in_lane (number c.args.vec.now) c.args.low.now c.args.targets.now c.requires.low.0 c.requires.low.1 c.loop-j.j c.loop-j-test.true held _ n_fits refl

pub overflow_add-first : goal.overflow_add-first
overflow_add-first c =
    let held : SFits w128 (slice_index_or c.args.low.now c.loop-j.j (pos 0)) = search rules in
    let n_fits : SFits w64 (slice_index_or c.args.vec.now (slice_index_or c.args.targets.now c.loop-j.j 0) (pos 0)) = search rules in
    lane.sum_in_lane (number c.args.vec.now) c.args.low.now c.args.targets.now c.requires.low.0 c.requires.low.1 c.loop-j.j c.loop-j-test.true held _ n_fits refl _ c.loop-j.invariant.first

pub overflow_cast-second : goal.overflow_cast-second
overflow_cast-second c =
    let held : SFits w128 (slice_index_or c.args.high.now c.loop-j.j (pos 0)) = search rules in
    lane.weight_cast (number c.args.vec.now) c.args.high.now c.args.targets.now c.requires.high.0 c.requires.high.1 c.loop-j.j c.loop-j-test.true held

pub overflow_mul-second : goal.overflow_mul-second
overflow_mul-second c =
    let held : SFits w128 (slice_index_or c.args.high.now c.loop-j.j (pos 0)) = search rules in
    let n_fits : SFits w64 (slice_index_or c.args.vec.now (slice_index_or c.args.targets.now c.loop-j.j 0) (pos 0)) = search rules in
    lane.product_in_lane (number c.args.vec.now) c.args.high.now c.args.targets.now c.requires.high.0 c.requires.high.1 c.loop-j.j c.loop-j-test.true held _ n_fits refl

pub overflow_add-second : goal.overflow_add-second
overflow_add-second c =
    let held : SFits w128 (slice_index_or c.args.high.now c.loop-j.j (pos 0)) = search rules in
    let n_fits : SFits w64 (slice_index_or c.args.vec.now (slice_index_or c.args.targets.now c.loop-j.j 0) (pos 0)) = search rules in
    lane.sum_in_lane (number c.args.vec.now) c.args.high.now c.args.targets.now c.requires.high.0 c.requires.high.1 c.loop-j.j c.loop-j-test.true held _ n_fits refl _ c.loop-j.invariant.second

pub loop-j-preserved : goal.loop-j-preserved
loop-j-preserved c =
    let low : SFits w128 (slice_index_or c.args.low.now c.loop-j.j (pos 0)) = search rules in
    let n_fits : SFits w64 (slice_index_or c.args.vec.now (slice_index_or c.args.targets.now c.loop-j.j 0) (pos 0)) = search rules in
    let high : SFits w128 (slice_index_or c.args.high.now c.loop-j.j (pos 0)) = search rules in
    record {
      first = lane.summed (number c.args.vec.now) c.args.low.now c.args.targets.now c.requires.low.0 c.requires.low.1 c.loop-j.j c.loop-j-test.true low _ n_fits refl _ c.loop-j.invariant.first;
      second = lane.summed (number c.args.vec.now) c.args.high.now c.args.targets.now c.requires.high.0 c.requires.high.1 c.loop-j.j c.loop-j-test.true high _ n_fits refl _ c.loop-j.invariant.second;
    }
