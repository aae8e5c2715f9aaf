use Rattle.lift_lump.proofs.Clearing.{AreUnmarked}
use Rattle.lift_lump.proofs.split.unmark.Given as goal

abbrev pub invariant-loop-s : goal.invariant-loop-s
invariant-loop-s l = AreUnmarked l.states l.s-index l.fn.marks l.marks
