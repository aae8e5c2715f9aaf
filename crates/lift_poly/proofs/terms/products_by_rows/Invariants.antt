use Rattle.std.proofs.Common.{◌≡◌, ◌++◌, false, take}
use Rattle.std.specs.List.{list_any}
use Rattle.lift_poly.specs.Arithmetic.{products}
use Rattle.lift_poly.specs.MultiAffine.{is_wide}
use Rattle.lift_poly.proofs.terms.products_by_rows.Given as goal

abbrev pub invariant-loop-term : goal.invariant-loop-term
invariant-loop-term l =
    (l.products.items ≡ l.initial.products.items ++ products (take l.term-index l.others) l.initial.products.items)
    × (list_any is_wide (products (take l.term-index l.others) l.initial.products.items) ≡ false)
