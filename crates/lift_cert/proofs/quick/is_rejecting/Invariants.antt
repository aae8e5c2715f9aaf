use Rattle.lift_cert.specs.RejectMiss.{AreHeldBefore}
use Rattle.lift_cert.proofs.quick.is_rejecting.Given as goal

abbrev pub ghost-is_state_held : goal.ghost-is_state_held
ghost-is_state_held g a = g.spans

-- the states before this one pass
abbrev pub invariant-loop-state : goal.invariant-loop-state
invariant-loop-state g l = AreHeldBefore l.case g.spans l.r l.state
