use Rattle.std.proofs.Common.{◌≡◌, ◌∷◌, [], length, map, take}
use Rattle.lift_lump.specs.Quotient.{quotient_row}
use Rattle.lift_lump.specs.Summing.{AreNone}
use Rattle.lift_lump.specs.Comparing.{blocks_of}
use Rattle.lift_lump.proofs.compared.rows_of.Given as goal

abbrev pub invariant-loop-first : goal.invariant-loop-first
invariant-loop-first l = record {
  rows : map (λ v. v.items) l.rows.items ≡ map (λ s. quotient_row l.model (blocks_of l.blocks) s ∷ []) (take l.first-index l.blocks.firsts.items);
  none : AreNone (length l.blocks.firsts.items) l.sums.of_blocks.items l.sums.visited.items l.sums.zero;
}
