use Rattle.lift_lump.proofs.marks.+monomial_mark.Given as goal

abbrev pub decreases-monomial_mark : goal.decreases-monomial_mark
decreases-monomial_mark l = l.set
