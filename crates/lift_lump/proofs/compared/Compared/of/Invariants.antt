use Rattle.std.proofs.Common.{length}
use Rattle.lift_lump.specs.Summing.{AreNone}
use Rattle.lift_lump.specs.Comparing.{blocks_of}
use Rattle.lift_lump.proofs.Likening.{AreLooked}
use Rattle.lift_lump.proofs.compared.Compared.of.Given as goal

abbrev pub invariant-loop-s : goal.invariant-loop-s
invariant-loop-s l = record {
  looked : AreLooked l.model (blocks_of l.found.blocks) l.s l.compared;
  none : AreNone (length l.found.blocks.firsts.items) l.sums.of_blocks.items l.sums.visited.items l.sums.zero;
}
