use Rattle.std.proofs.Common.{◌≡◌, ◌<◌, ℕ, length, slice_index_or}
use Rattle.lift_model.proofs.order.as_numbered.Given as goal

-- the states so far were numbered
abbrev pub invariant-loop-s : goal.invariant-loop-s
invariant-loop-s l = record {
  states : length l.states.items ≡ l.s;
  positions : length l.positions.items ≡ l.s;
  same : (i : ℕ) → i < l.s → slice_index_or l.positions.items i 0 ≡ i;
  found : (i : ℕ) → i < l.s → slice_index_or l.states.items i 0 ≡ i;
}
