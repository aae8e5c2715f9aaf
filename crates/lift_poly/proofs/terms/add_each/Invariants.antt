use Rattle.std.proofs.Common.{◌≡◌, ◌≤◌, length, take, drop}
use Rattle.lift_poly.proofs.Merging.{Merging}
use Rattle.lift_poly.proofs.terms.add_each.Given as goal

abbrev pub invariant-loop-i : goal.invariant-loop-i
invariant-loop-i l = record {
  before : l.end ≤ l.i;
  len : length l.terms.items ≡ length l.initial.terms.items;
  behind : drop l.i l.terms.items ≡ drop l.i l.initial.terms.items;
  merging : Merging l.initial.terms.items l.others (take l.end l.terms.items) (drop l.i l.initial.terms.items) (drop l.i l.others);
}
