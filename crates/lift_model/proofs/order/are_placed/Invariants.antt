use Rattle.std.proofs.Common.{◌≡◌, ◌<◌, ℕ, length, slice_index_or}
use Rattle.lift_model.proofs.order.are_placed.Given as goal

-- the states so far stand at their positions
abbrev pub invariant-loop-s : goal.invariant-loop-s
invariant-loop-s l = (i : ℕ) → i < l.s → (slice_index_or l.positions i 0 < length l.states) × (slice_index_or l.states (slice_index_or l.positions i 0) 0 ≡ i)
