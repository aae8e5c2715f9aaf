use Rattle.std.proofs.Common.{◌≡◌, ℕ, [], length}
use Rattle.lift_lump.specs.Search.{arrows_into}
use Rattle.lift_lump.proofs.arrows.no_arrows.Given as goal

abbrev pub invariant-loop : goal.invariant-loop
invariant-loop l = record {
  count : length l.lists ≡ l.counter;
  none : (t : ℕ) → arrows_into l.lists t ≡ [];
}
