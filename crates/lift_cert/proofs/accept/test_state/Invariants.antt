use Rattle.std.proofs.Common.{ℕ, ◌<◌}
use Rattle.lift_grid.specs.Rectangle.{spans_of}
use Rattle.lift_cert.specs.Miss.{IsAcceptedRow}
use Rattle.lift_cert.proofs.accept.test_state.Given as goal

-- the rows before this choice's pass
abbrev pub invariant-loop-choice : goal.invariant-loop-choice
invariant-loop-choice l = (a : ℕ) → a < l.choice → IsAcceptedRow l.case (spans_of l.sides) l.x l.state a
