use Rattle.lift_grid.specs.Rectangle.{spans_of}
use Rattle.lift_cert.specs.RejectMiss.{AreHeldBefore}
use Rattle.lift_cert.proofs.reject.meets_reject.Given as goal

-- the states before this one pass
abbrev pub invariant-loop-state : goal.invariant-loop-state
invariant-loop-state l = AreHeldBefore l.case (spans_of l.sides) l.r l.state
