use Rattle.std.proofs.Common.{ℕ, ◌<◌}
use Rattle.rounded_iter.specs.Watching.{IsSure}
use Rattle.rounded_iter.proofs.table.Table.is_sure.Given as goal

-- the states below s passed
abbrev pub invariant-loop-s : goal.invariant-loop-s
invariant-loop-s l = (i : ℕ) → i < l.s → IsSure l.self.rule l.self.case l.noted l.lane i
