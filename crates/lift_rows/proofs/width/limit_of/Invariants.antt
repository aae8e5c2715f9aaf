use Rattle.std.proofs.Common.{◌-◌, ◌≤◌}
use Rattle.corner_lift.specs.Case.{greatest_size}
use Rattle.lift_rows.proofs.Widths.{IsLimit}
use Rattle.lift_rows.proofs.width.limit_of.Given as goal

-- the limit before the factors so far
abbrev pub invariant-loop-left : goal.invariant-loop-left
invariant-loop-left l = (l.left ≤ l.count) × IsLimit (greatest_size l.asked.d l.asked.root) l.asked.w (l.count - l.left) l.limit

abbrev pub decreases-loop-left : goal.decreases-loop-left
decreases-loop-left l = l.left
