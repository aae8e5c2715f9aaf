use Rattle.std.proofs.Common.{ℕ, ◌<◌}
use Rattle.lift_grid.specs.Rectangle.{spans_of}
use Rattle.audit_cert.specs.Claim.{PassesRow}
use Rattle.audit_cert.specs.Held.{claim_of}
use Rattle.audit_cert.proofs.state.test_each_row.Given as goal

-- the rows before this choice's pass
abbrev pub invariant-loop-choice : goal.invariant-loop-choice
invariant-loop-choice l = (a : ℕ) → a < l.choice → PassesRow l.case (spans_of l.sides) (claim_of l.claim) l.state a
