use Rattle.lift_lump.specs.Splitting.{AreNumberedSo}
use Rattle.lift_lump.proofs.numbered.Numbered.of.Given as goal

abbrev pub invariant-loop-label : goal.invariant-loop-label
invariant-loop-label l = AreNumberedSo l.labels l.label-index l.names.items l.blocks.of_states.items l.blocks.firsts.items
