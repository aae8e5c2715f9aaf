use Rattle.std.proofs.Common.{take}
use Rattle.lift_lump.specs.Search.{whole, AreEntered}
use Rattle.lift_lump.proofs.arrows.enter_row.Given as goal

abbrev pub invariant-loop-entry : goal.invariant-loop-entry
invariant-loop-entry l = AreEntered (whole l.point) l.s (take l.entry-index l.row) l.fn.lists l.lists
