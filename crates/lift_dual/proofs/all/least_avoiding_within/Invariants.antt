use Rattle.lift_dual.proofs.all.least_avoiding_within.Given as goal

abbrev pub ghost-rank_all : goal.ghost-rank_all
ghost-rank_all g a = g.spans

abbrev pub ghost-least_bound_by_guess : goal.ghost-least_bound_by_guess
ghost-least_bound_by_guess g a = g.spans
