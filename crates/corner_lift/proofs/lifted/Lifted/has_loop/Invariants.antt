use Rattle.std.proofs.Common.{ℕ, ◌<◌, ◌≢◌, slice_index_or}
use Rattle.corner_lift.proofs.lifted.Lifted.has_loop.Given as goal

-- the targets so far are other states
abbrev pub invariant-loop-target : goal.invariant-loop-target
invariant-loop-target l = (i : ℕ) → i < l.target-index → slice_index_or l.target-items i 0 ≢ l.s
