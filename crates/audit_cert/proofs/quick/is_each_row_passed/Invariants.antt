use Rattle.std.proofs.Common.{ℕ, ◌<◌}
use Rattle.audit_cert.specs.Claim.{PassesRow}
use Rattle.audit_cert.specs.Held.{claim_of}
use Rattle.audit_cert.proofs.quick.is_each_row_passed.Given as goal

abbrev pub ghost-is_row_passed : goal.ghost-is_row_passed
ghost-is_row_passed g a = g.spans

-- the rows before this choice's pass
abbrev pub invariant-loop-choice : goal.invariant-loop-choice
invariant-loop-choice g l = (a : ℕ) → a < l.choice → PassesRow l.table.case g.spans (claim_of l.claim) l.state a
