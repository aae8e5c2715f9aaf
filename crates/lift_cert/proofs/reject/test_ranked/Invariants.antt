use Rattle.std.proofs.Common.{ℕ, ◌<◌}
use Rattle.lift_grid.specs.Rectangle.{spans_of}
use Rattle.lift_cert.specs.RejectMiss.{IsHeldCorner}
use Rattle.lift_cert.proofs.reject.test_ranked.Given as goal

-- the corners before this one pass
abbrev pub invariant-loop-corner : goal.invariant-loop-corner
invariant-loop-corner l = (c : ℕ) → c < l.corner → IsHeldCorner l.case (spans_of l.sides) l.r l.state l.choice c
