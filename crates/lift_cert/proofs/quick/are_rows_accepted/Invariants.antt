use Rattle.std.proofs.Common.{ℕ, ◌<◌}
use Rattle.lift_cert.specs.Miss.{IsAcceptedRow}
use Rattle.lift_cert.proofs.quick.are_rows_accepted.Given as goal

abbrev pub ghost-is_row_accepted : goal.ghost-is_row_accepted
ghost-is_row_accepted g a = g.spans

-- the rows before this choice's pass
abbrev pub invariant-loop-choice : goal.invariant-loop-choice
invariant-loop-choice g l = (a : ℕ) → a < l.choice → IsAcceptedRow l.table.case g.spans l.x l.state a
