use Rattle.lift_grid.specs.Rectangle.{spans_of}
use Rattle.lift_grid.specs.Splitting.{IsAxisBelow}
use Rattle.lift_grid.proofs.halving.split_axis.Given as goal

abbrev pub invariant-loop-parameter : goal.invariant-loop-parameter
invariant-loop-parameter l = IsAxisBelow l.parameter l.live (spans_of l.sides) l.best
