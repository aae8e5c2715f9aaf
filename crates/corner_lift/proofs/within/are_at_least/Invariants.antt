use Rattle.std.proofs.Common.{ℕ, ◌<◌, ◌≤ℤ◌, slice_index_or}
use Rattle.corner_lift.specs.Case.{number}
use Rattle.corner_lift.proofs.within.are_at_least.Given as goal

-- so it is with the targets so far
abbrev pub invariant-loop-target : goal.invariant-loop-target
invariant-loop-target l = (i : ℕ) → i < l.target-index → l.least ≤ℤ number l.vec (slice_index_or l.targets i 0)
