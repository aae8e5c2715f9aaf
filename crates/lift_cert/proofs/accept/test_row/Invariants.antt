use Rattle.std.proofs.Common.{ℕ, ◌<◌}
use Rattle.lift_grid.specs.Rectangle.{spans_of}
use Rattle.lift_cert.specs.Miss.{IsAcceptedCorner}
use Rattle.lift_cert.proofs.accept.test_row.Given as goal

-- the corners before this one pass
abbrev pub invariant-loop-corner : goal.invariant-loop-corner
invariant-loop-corner l = (c : ℕ) → c < l.corner → IsAcceptedCorner l.case (spans_of l.sides) l.x l.state l.choice c
