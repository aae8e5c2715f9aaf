use Rattle.lift_rows.proofs.Blocks.{AreRight}
use Rattle.lift_rows.proofs.sums.sum_fault.Given as goal

-- the blocks so far hold no wrong sum
abbrev pub invariant-loop-block : goal.invariant-loop-block
invariant-loop-block l = AreRight l.common l.row l.block
