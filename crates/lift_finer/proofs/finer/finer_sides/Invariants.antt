use Rattle.std.proofs.Common.{take}
use Rattle.lift_finer.proofs.Rectangles.{Kept}
use Rattle.lift_finer.proofs.finer.finer_sides.Given as goal

abbrev pub invariant-loop-side : goal.invariant-loop-side
invariant-loop-side l = Kept l.n l.finer.items (take l.side-index l.sides)
