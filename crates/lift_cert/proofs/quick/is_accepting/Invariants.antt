use Rattle.lift_cert.specs.Miss.{AreAcceptedBefore}
use Rattle.lift_cert.proofs.quick.is_accepting.Given as goal

abbrev pub ghost-is_state_accepted : goal.ghost-is_state_accepted
ghost-is_state_accepted g a = g.spans

-- the states before this one pass
abbrev pub invariant-loop-state : goal.invariant-loop-state
invariant-loop-state g l = AreAcceptedBefore l.case g.spans l.x l.state
