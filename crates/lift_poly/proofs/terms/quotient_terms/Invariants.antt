use Rattle.std.proofs.Common.{◌≡◌, take}
use Rattle.lift_poly.specs.Arithmetic.{quotient}
use Rattle.lift_poly.proofs.terms.quotient_terms.Given as goal

abbrev pub invariant-loop-term : goal.invariant-loop-term
invariant-loop-term l = l.quotient.items ≡ quotient (take l.term-index l.terms) l.by
