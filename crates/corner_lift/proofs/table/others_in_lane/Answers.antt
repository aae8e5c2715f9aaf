use Rattle.std.proofs.Common.{rules, ◌≡◌, pos, slice_index_or, false, nat_eq, SFits, w64, ne_eqb, eq-eqb, ◌∙◌}
use mir.Syntax.{w128}
use Rattle.corner_lift.specs.Case.{number}
use Rattle.corner_lift.specs.Dot.{but_at}
use Rattle.corner_lift.proofs.InLane as lane
use Rattle.corner_lift.proofs.OtherStates.{one, but_other, but_own, others_sum, others_fit, ones_sum, ones_fit}
use Rattle.corner_lift.proofs.table.others_in_lane.Goals as goal
use Rattle.corner_lift.proofs.table.others_in_lane.Goals.{then-targets-j, else-targets-j}

pub overflow_cast-weight : goal.overflow_cast-weight
overflow_cast-weight c =
    let held : SFits w128 (slice_index_or c.args.weights.now c.loop-j.j (pos 0)) = search rules in
    lane.weight_cast (number c.args.vec.now) c.args.weights.now c.args.targets.now c.requires.room c.requires.lane c.loop-j.j c.loop-j-test.true held

pub overflow_mul-sum : goal.overflow_mul-sum
overflow_mul-sum c =
    let held : SFits w128 (slice_index_or c.args.weights.now c.loop-j.j (pos 0)) = search rules in
    let n_fits : SFits w64 (slice_index_or c.args.vec.now (slice_index_or c.args.targets.now c.loop-j.j 0) (pos 0)) = search rules in
    let other : nat_eq (slice_index_or c.args.targets.now c.loop-j.j 0) c.args.s ≡ false = ne_eqb _ _ c.if-targets-j.true in
    lane.product_in_lane (but_at c.args.s (number c.args.vec.now)) c.args.weights.now c.args.targets.now (others_sum c.args.s (number c.args.vec.now) c.args.weights.now c.args.targets.now c.requires.room) (others_fit c.args.s (number c.args.vec.now) c.args.weights.now c.args.targets.now c.requires.room c.requires.lane) c.loop-j.j c.loop-j-test.true held _ n_fits (but_other c.args.s (number c.args.vec.now) (slice_index_or c.args.targets.now c.loop-j.j 0) other)

pub overflow_add-sum : goal.overflow_add-sum
overflow_add-sum c =
    let held : SFits w128 (slice_index_or c.args.weights.now c.loop-j.j (pos 0)) = search rules in
    let n_fits : SFits w64 (slice_index_or c.args.vec.now (slice_index_or c.args.targets.now c.loop-j.j 0) (pos 0)) = search rules in
    let other : nat_eq (slice_index_or c.args.targets.now c.loop-j.j 0) c.args.s ≡ false = ne_eqb _ _ c.if-targets-j.true in
    lane.sum_in_lane (but_at c.args.s (number c.args.vec.now)) c.args.weights.now c.args.targets.now (others_sum c.args.s (number c.args.vec.now) c.args.weights.now c.args.targets.now c.requires.room) (others_fit c.args.s (number c.args.vec.now) c.args.weights.now c.args.targets.now c.requires.room c.requires.lane) c.loop-j.j c.loop-j-test.true held _ n_fits (but_other c.args.s (number c.args.vec.now) (slice_index_or c.args.targets.now c.loop-j.j 0) other) _ c.loop-j.invariant.sum

pub overflow_add-whole : goal.overflow_add-whole
overflow_add-whole c =
    let held : SFits w128 (slice_index_or c.args.weights.now c.loop-j.j (pos 0)) = search rules in
    let other : nat_eq (slice_index_or c.args.targets.now c.loop-j.j 0) c.args.s ≡ false = ne_eqb _ _ c.if-targets-j.true in
    lane.counted_in_lane (but_at c.args.s one) c.args.weights.now c.args.targets.now (others_sum c.args.s one c.args.weights.now c.args.targets.now (ones_sum (number c.args.vec.now) c.args.weights.now c.args.targets.now c.requires.room c.requires.lane)) (others_fit c.args.s one c.args.weights.now c.args.targets.now (ones_sum (number c.args.vec.now) c.args.weights.now c.args.targets.now c.requires.room c.requires.lane) (ones_fit (number c.args.vec.now) c.args.weights.now c.args.targets.now c.requires.room c.requires.lane)) c.loop-j.j c.loop-j-test.true held (but_other c.args.s one (slice_index_or c.args.targets.now c.loop-j.j 0) other) _ c.loop-j.invariant.whole

pub loop-j-preserved : goal.loop-j-preserved
loop-j-preserved c =
    elim c.if-targets-j.branch [
      | then-targets-j w ↦
          let held : SFits w128 (slice_index_or c.args.weights.now c.loop-j.j (pos 0)) = search rules in
          let n_fits : SFits w64 (slice_index_or c.args.vec.now (slice_index_or c.args.targets.now c.loop-j.j 0) (pos 0)) = search rules in
          let other : nat_eq (slice_index_or c.args.targets.now c.loop-j.j 0) c.args.s ≡ false = ne_eqb _ _ w.if-targets-j.true in
          record {
            sum = w.sum-is ∙ lane.summed (but_at c.args.s (number c.args.vec.now)) c.args.weights.now c.args.targets.now (others_sum c.args.s (number c.args.vec.now) c.args.weights.now c.args.targets.now c.requires.room) (others_fit c.args.s (number c.args.vec.now) c.args.weights.now c.args.targets.now c.requires.room c.requires.lane) c.loop-j.j c.loop-j-test.true held _ n_fits (but_other c.args.s (number c.args.vec.now) (slice_index_or c.args.targets.now c.loop-j.j 0) other) _ c.loop-j.invariant.sum;
            whole = w.whole-is ∙ lane.counted (but_at c.args.s one) c.args.weights.now c.args.targets.now (others_sum c.args.s one c.args.weights.now c.args.targets.now (ones_sum (number c.args.vec.now) c.args.weights.now c.args.targets.now c.requires.room c.requires.lane)) (others_fit c.args.s one c.args.weights.now c.args.targets.now (ones_sum (number c.args.vec.now) c.args.weights.now c.args.targets.now c.requires.room c.requires.lane) (ones_fit (number c.args.vec.now) c.args.weights.now c.args.targets.now c.requires.room c.requires.lane)) c.loop-j.j c.loop-j-test.true held (but_other c.args.s one (slice_index_or c.args.targets.now c.loop-j.j 0) other) _ c.loop-j.invariant.whole;
          }
      | else-targets-j w ↦
          let own = eq-eqb (slice_index_or c.args.targets.now c.loop-j.j 0) c.args.s w.if-targets-j.false in
          record {
            sum = w.sum-is ∙ lane.passed (but_at c.args.s (number c.args.vec.now)) c.args.weights.now c.args.targets.now (others_sum c.args.s (number c.args.vec.now) c.args.weights.now c.args.targets.now c.requires.room) (others_fit c.args.s (number c.args.vec.now) c.args.weights.now c.args.targets.now c.requires.room c.requires.lane) c.loop-j.j c.loop-j-test.true (but_own c.args.s (number c.args.vec.now) (slice_index_or c.args.targets.now c.loop-j.j 0) own) _ c.loop-j.invariant.sum;
            whole = w.whole-is ∙ lane.passed (but_at c.args.s one) c.args.weights.now c.args.targets.now (others_sum c.args.s one c.args.weights.now c.args.targets.now (ones_sum (number c.args.vec.now) c.args.weights.now c.args.targets.now c.requires.room c.requires.lane)) (others_fit c.args.s one c.args.weights.now c.args.targets.now (ones_sum (number c.args.vec.now) c.args.weights.now c.args.targets.now c.requires.room c.requires.lane) (ones_fit (number c.args.vec.now) c.args.weights.now c.args.targets.now c.requires.room c.requires.lane)) c.loop-j.j c.loop-j-test.true (but_own c.args.s one (slice_index_or c.args.targets.now c.loop-j.j 0) own) _ c.loop-j.invariant.whole;
          }
    ]
