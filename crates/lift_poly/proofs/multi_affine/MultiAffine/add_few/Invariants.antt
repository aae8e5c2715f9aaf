use Rattle.lift_poly.proofs.Insertion.{Adding}
use Rattle.lift_poly.proofs.multi_affine.MultiAffine.add_few.Given as goal

abbrev pub invariant-loop-term : goal.invariant-loop-term
invariant-loop-term l = Adding l.initial.terms.items l.term-items l.term-index l.terms.items
