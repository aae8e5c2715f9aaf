use Rattle.lift_lump.proofs.Clearing.{AreCleared}
use Rattle.lift_lump.proofs.split.clear.Given as goal

abbrev pub invariant-loop-s : goal.invariant-loop-s
invariant-loop-s l = AreCleared l.states l.s-index l.fn.numbers l.numbers
