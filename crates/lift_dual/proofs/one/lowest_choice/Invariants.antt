use Rattle.lift_dual.proofs.one.lowest_choice.Given as goal

abbrev pub ghost-lowest_satisfied : goal.ghost-lowest_satisfied
ghost-lowest_satisfied g a = g.spans
