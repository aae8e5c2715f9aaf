use Rattle.lift_dual.proofs.all.greatest_all.Given as goal

abbrev pub ghost-least_avoiding_within : goal.ghost-least_avoiding_within
ghost-least_avoiding_within g a = g.spans

abbrev pub ghost-leave_lower : goal.ghost-leave_lower
ghost-leave_lower g a = g.spans
