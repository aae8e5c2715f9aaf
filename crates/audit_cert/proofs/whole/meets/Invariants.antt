use Rattle.lift_grid.specs.Rectangle.{spans_of}
use Rattle.audit_cert.specs.Claim.{PassBefore}
use Rattle.audit_cert.specs.Held.{claim_of}
use Rattle.audit_cert.proofs.whole.meets.Given as goal

-- the states before this one pass
abbrev pub invariant-loop-state : goal.invariant-loop-state
invariant-loop-state l = PassBefore l.case (spans_of l.sides) (claim_of l.claim) l.state
