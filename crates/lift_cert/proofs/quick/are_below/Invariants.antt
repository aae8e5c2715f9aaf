use Rattle.std.proofs.Common.{ℕ, ◌<◌, slice_index_or}
use Rattle.corner_lift.specs.Certificate.{mark}
use Rattle.lift_cert.proofs.quick.are_below.Given as goal

-- so it is with the targets so far
abbrev pub invariant-loop-target : goal.invariant-loop-target
invariant-loop-target l = (i : ℕ) → i < l.target-index → mark l.ranks (slice_index_or l.targets i 0) < l.below
