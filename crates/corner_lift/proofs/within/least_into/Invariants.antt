use Rattle.corner_lift.proofs.within.least_into.Given as goal

abbrev pub ghost-least_into : goal.ghost-least_into
ghost-least_into g a = g.spans
