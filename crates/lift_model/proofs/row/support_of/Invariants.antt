use Rattle.std.proofs.Common.{◌≡◌, drop, map, bit_or}
use Rattle.lift_poly.specs.Arithmetic as polynomial
use Rattle.lift_model.specs.Model.{union, support}
use Rattle.lift_model.proofs.row.support_of.Given as goal

-- the set so far and what is left make the support
abbrev pub invariant-loop-entry : goal.invariant-loop-entry
invariant-loop-entry l = bit_or l.set (union (map (λ entry. polynomial.support entry.poly) (drop l.entry-index l.entries))) ≡ support l.entries
