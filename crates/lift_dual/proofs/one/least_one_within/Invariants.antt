use Rattle.lift_dual.proofs.one.least_one_within.Given as goal

abbrev pub ghost-least_bound_by_guess : goal.ghost-least_bound_by_guess
ghost-least_bound_by_guess g a = g.spans

abbrev pub ghost-choose_all : goal.ghost-choose_all
ghost-choose_all g a = g.spans
