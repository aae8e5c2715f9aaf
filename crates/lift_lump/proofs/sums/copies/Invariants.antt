use Rattle.std.proofs.Common.{◌≡◌, ℕ, [], length}
use Rattle.lift_lump.specs.Summing.{sum_at}
use Rattle.lift_lump.proofs.sums.copies.Given as goal

abbrev pub invariant-loop : goal.invariant-loop
invariant-loop l = record {
  count : length l.list.items ≡ l.counter;
  none : l.poly ≡ [] → (b : ℕ) → sum_at l.list.items b ≡ [];
}
