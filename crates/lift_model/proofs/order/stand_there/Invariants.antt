use Rattle.std.proofs.Common.{◌≡◌, ◌<◌, ℕ, slice_index_or}
use Rattle.lift_model.proofs.order.stand_there.Given as goal

-- the states so far have the positions at which they stand
abbrev pub invariant-loop-i : goal.invariant-loop-i
invariant-loop-i l = (k : ℕ) → k < l.i → slice_index_or l.positions (slice_index_or l.states k 0) 0 ≡ k
