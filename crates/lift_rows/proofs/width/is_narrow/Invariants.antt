use Rattle.std.proofs.Common.{◌+◌, take}
use Rattle.corner_lift.specs.Case.{greatest_size, abs_sum}
use Rattle.lift_rows.proofs.Widths.{IsLimit}
use Rattle.lift_rows.proofs.width.is_narrow.Given as goal

-- the sizes so far and what is left make the limit
abbrev pub invariant-loop-entry : goal.invariant-loop-entry
invariant-loop-entry l = IsLimit (greatest_size l.asked.d l.asked.root) l.asked.w l.count (abs_sum (take l.entry-index l.row) + l.left)
