use Rattle.audit_cert.specs.Claim.{PassBefore}
use Rattle.audit_cert.specs.Held.{claim_of}
use Rattle.audit_cert.proofs.quick.passes.Given as goal

abbrev pub ghost-is_state_passed : goal.ghost-is_state_passed
ghost-is_state_passed g a = g.spans

-- the states before this one pass
abbrev pub invariant-loop-state : goal.invariant-loop-state
invariant-loop-state g l = PassBefore l.case g.spans (claim_of l.claim) l.state
