use Rattle.rounded_iter.proofs.least.least_upper_within.Given as goal

abbrev pub ghost-least_bound : goal.ghost-least_bound
ghost-least_bound g a = g.spans
