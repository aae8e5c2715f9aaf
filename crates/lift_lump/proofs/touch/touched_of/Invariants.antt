use Rattle.std.proofs.Common.{take}
use Rattle.lift_lump.specs.Renaming.{AreLookedAt}
use Rattle.lift_lump.proofs.touch.touched_of.Given as goal

abbrev pub invariant-loop-s : goal.invariant-loop-s
invariant-loop-s l = AreLookedAt l.labels l.numbers (take l.s-index l.visited) l.list.items
