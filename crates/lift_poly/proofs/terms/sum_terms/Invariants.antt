use Rattle.std.proofs.Common.{length, drop, ◌+◌, ◌-◌, ◌≤◌}
use Rattle.lift_poly.proofs.Merging.{Merging}
use Rattle.lift_poly.proofs.terms.sum_terms.Given as goal

abbrev pub invariant-loop-i : goal.invariant-loop-i
invariant-loop-i l = record {
  left_within : l.i ≤ length l.left;
  right_within : l.j ≤ length l.right;
  merging : Merging l.left l.right l.terms.items (drop l.i l.left) (drop l.j l.right);
}

abbrev pub decreases-loop-i : goal.decreases-loop-i
decreases-loop-i l = (length l.left - l.i) + (length l.right - l.j)
