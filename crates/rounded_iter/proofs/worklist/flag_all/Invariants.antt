use Rattle.std.proofs.Common.{◌≢◌, ℕ, ◌<◌}
use Rattle.rounded_iter.specs.Watching.{flag}
use Rattle.rounded_iter.proofs.worklist.flag_all.Given as goal

-- the places before it are flagged
abbrev pub invariant-loop-place : goal.invariant-loop-place
invariant-loop-place l = (j : ℕ) → j < l.place → flag l.work j ≢ 0
