use Rattle.std.proofs.Common.{◌+◌, arith, sym, ◌∙◌, to_z, of_z, w64, to_z-of_z}
use Rattle.lift_rows.proofs.Blocks.{AreRight, right_more, right_over, right_all, right_here, wrong_here}
use Rattle.lift_rows.proofs.sums.sum_fault.Goals as goal
use Rattle.lift_rows.proofs.sums.sum_fault.Goals.{then-block-support+else-is_some, else-block-support, Joined-block-support}

pub returns-then-is_some-clause-fault : goal.returns-then-is_some-clause-fault
returns-then-is_some-clause-fault c =
    let is = rw c.entries.ensures at c.sums_in-sums.ensures.sums in
    rw (← to_z-of_z c.ranges.common) (wrong_here _ c.args.row.now c.loop-block.block c.sums_in-sums.result is c.first_wrong-wrong.result (sym c.is_some.ensures ∙ c.if-is_some.true) c.first_wrong-wrong.ensures c.loop-block.invariant)

-- this block too
more : (c : Joined-block-support) → AreRight (to_z w64 (of_z w64 c.args.common)) c.args.row.now (c.loop-block.block + 1)
more c =
    right_more _ c.args.row.now c.loop-block.block c.loop-block.invariant
    (elim c.if-block-support.branch [
      | then-block-support+else-is_some w ↦ right_here _ c.args.row.now c.loop-block.block w.sums_in-sums.result (rw w.entries.ensures at w.sums_in-sums.ensures.sums) w.first_wrong-wrong.result (sym w.is_some.ensures ∙ w.if-is_some.false) w.first_wrong-wrong.ensures
      | else-block-support w ↦ right_over _ c.args.row.now c.loop-block.block (rw c.support-support.ensures at w.if-block-support.false)
    ])

pub loop-block-preserved : goal.loop-block-preserved
loop-block-preserved c = more (goal.at.loop-block-preserved c).Joined-block-support

pub returns-after-block-support-clause-fault : goal.returns-after-block-support-clause-fault
returns-after-block-support-clause-fault c =
    rw (← to_z-of_z c.ranges.common) (right_all _ c.args.row.now (c.loop-block.block + 1) (omega (arith, c.support-support.ensures)) (more (goal.at.returns-after-block-support-clause-fault c).Joined-block-support))
