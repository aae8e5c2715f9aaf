use Rattle.std.proofs.Common.{◌≡◌, ◌++◌, take, false}
use Rattle.std.specs.List.{list_any}
use Rattle.lift_poly.specs.Arithmetic.{products_of}
use Rattle.lift_poly.specs.MultiAffine.{is_wide}
use Rattle.lift_poly.proofs.terms.push_row.Given as goal

abbrev pub invariant-loop-i : goal.invariant-loop-i
invariant-loop-i l =
    (l.terms.items ≡ l.initial.terms.items ++ products_of l.term (take l.i l.initial.terms.items))
    × (list_any is_wide (products_of l.term (take l.i l.initial.terms.items)) ≡ false)
