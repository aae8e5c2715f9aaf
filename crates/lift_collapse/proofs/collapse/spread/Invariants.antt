use Rattle.std.proofs.Common.{◌≡◌, ◌<◌, ℕ, pos, length, slice_index_or}
use Rattle.corner_lift.specs.Case.{number}
use Rattle.lift_collapse.proofs.collapse.spread.Given as goal

-- the states so far have their numbers
abbrev pub invariant-loop-s : goal.invariant-loop-s
invariant-loop-s l = (length l.lane ≡ length l.places) × ((i : ℕ) → i < l.s → slice_index_or l.lane i (pos 0) ≡ number l.values (slice_index_or l.places i 0))
