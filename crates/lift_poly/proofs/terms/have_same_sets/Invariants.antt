use Rattle.std.proofs.Common.{◌≡◌, map, take}
use Rattle.lift_poly.specs.Polynomial.{Term}
use Rattle.lift_poly.proofs.terms.have_same_sets.Given as goal

abbrev pub invariant-loop-i : goal.invariant-loop-i
invariant-loop-i l = map (λ (term : Term). term.0) (take l.i l.left) ≡ map (λ (term : Term). term.0) (take l.i l.right)
