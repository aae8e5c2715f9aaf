use Rattle.std.proofs.Common.{ℕ, ◌<◌}
use Rattle.lift_grid.specs.Rectangle.{spans_of}
use Rattle.audit_cert.specs.Claim.{PassesCorner}
use Rattle.audit_cert.specs.Held.{claim_of}
use Rattle.audit_cert.proofs.state.test_row.Given as goal

-- the corners before this one pass
abbrev pub invariant-loop-corner : goal.invariant-loop-corner
invariant-loop-corner l = (c : ℕ) → c < l.corner → PassesCorner l.case (spans_of l.sides) (claim_of l.claim) l.state l.choice c
