use Rattle.lift_grid.specs.Rectangle.{spans_of}
use Rattle.lift_cert.specs.Miss.{AreAcceptedBefore}
use Rattle.lift_cert.proofs.accept.meets_accept.Given as goal

-- the states before this one pass
abbrev pub invariant-loop-state : goal.invariant-loop-state
invariant-loop-state l = AreAcceptedBefore l.case (spans_of l.sides) l.x l.state
