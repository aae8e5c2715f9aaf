use Rattle.std.proofs.Common.{take}
use Rattle.lift_lump.specs.Splitting.{AreAdded}
use Rattle.lift_lump.proofs.touch.add_rest.Given as goal

abbrev pub invariant-loop-s : goal.invariant-loop-s
invariant-loop-s l = AreAdded l.labels l.numbers l.block (take l.s-index l.states) l.fn.list.items l.list.items
