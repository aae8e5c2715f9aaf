use Rattle.std.proofs.Common.{ℕ, ◌<◌, ◌≤◌}
use Rattle.rounded_iter.specs.Watching.{flag}
use Rattle.rounded_iter.proofs.worklist.is_clear.Given as goal

-- the flags so far are at most the greatest of them
abbrev pub invariant-loop-flag : goal.invariant-loop-flag
invariant-loop-flag l = (j : ℕ) → j < l.flag-index → flag l.work j ≤ l.most
