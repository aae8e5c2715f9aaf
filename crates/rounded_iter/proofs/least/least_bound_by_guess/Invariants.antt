use Rattle.rounded_iter.proofs.least.least_bound_by_guess.Given as goal

abbrev pub ghost-find_by_guess : goal.ghost-find_by_guess
ghost-find_by_guess g a = g.spans
