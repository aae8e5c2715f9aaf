use Rattle.lift_grid.specs.Rectangle.{spans_of}
use Rattle.corner_lift.specs.Case.{row_value, IsLeast}
use Rattle.corner_lift.proofs.row.row_min.Given as goal

-- the least of the corners so far
abbrev pub invariant-loop-corner : goal.invariant-loop-corner
invariant-loop-corner l = IsLeast (row_value l.case (spans_of l.sides) l.s l.a l.vec) l.corner l.least
