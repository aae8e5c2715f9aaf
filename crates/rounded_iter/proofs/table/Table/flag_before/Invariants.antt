use Rattle.rounded_iter.proofs.Watching.{AreFlagged}
use Rattle.rounded_iter.proofs.table.Table.flag_before.Given as goal

-- the positions so far were flagged
abbrev pub invariant-loop-p : goal.invariant-loop-p
invariant-loop-p l = AreFlagged l.p-items l.initial.work l.work l.position l.frontier l.p-index
