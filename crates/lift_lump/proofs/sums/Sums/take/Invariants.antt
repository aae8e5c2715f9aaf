use Rattle.std.proofs.Common.{◌≡◌, []}
use Rattle.lift_lump.proofs.Adding.{AreTaken}
use Rattle.lift_lump.proofs.sums.Sums.take.Given as goal

abbrev pub invariant-loop-i : goal.invariant-loop-i
invariant-loop-i l = record {
  same : l.self.visited.items ≡ l.initial.self.visited.items;
  zero : l.self.zero ≡ [];
  taken : AreTaken l.initial.self.of_blocks.items l.initial.self.visited.items l.i l.self.of_blocks.items l.entries.items;
}
