use Rattle.lift_grid.specs.Rectangle.{spans_of}
use Rattle.corner_lift.proofs.Gathering.{AreGathered}
use Rattle.corner_lift.proofs.ends.Ends.at.Given as goal

-- the ends of the parameters so far were gathered
abbrev pub invariant-loop-left : goal.invariant-loop-left
invariant-loop-left l = AreGathered (spans_of l.sides) l.support l.corner l.ends l.left l.bits l.parameter

abbrev pub decreases-loop-left : goal.decreases-loop-left
decreases-loop-left l = l.left
