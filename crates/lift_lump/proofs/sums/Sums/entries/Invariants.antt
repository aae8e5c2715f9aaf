use Rattle.std.proofs.Common.{◌≡◌, [], length}
use Rattle.lift_lump.specs.Search.{number_at}
use Rattle.lift_lump.specs.Summing.{AreVisitedBlocks}
use Rattle.lift_lump.proofs.Adding.{AreSumsOf}
use Rattle.lift_lump.proofs.sums.Sums.entries.Given as goal

abbrev pub invariant-loop-entry : goal.invariant-loop-entry
invariant-loop-entry l = record {
  sums : AreSumsOf (number_at l.blocks) l.row l.entry-index (length l.fn.self.of_blocks.items) l.self.of_blocks.items;
  visited : AreVisitedBlocks l.self.of_blocks.items l.self.visited.items;
  zero : l.self.zero ≡ [];
}
