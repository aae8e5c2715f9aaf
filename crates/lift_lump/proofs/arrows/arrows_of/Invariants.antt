use Rattle.lift_lump.specs.Search.{whole}
use Rattle.lift_lump.proofs.Entering.{AreArrowsOf}
use Rattle.lift_lump.proofs.arrows.arrows_of.Given as goal

abbrev pub invariant-loop-s : goal.invariant-loop-s
invariant-loop-s l = AreArrowsOf l.model (whole l.point) l.s l.lists
