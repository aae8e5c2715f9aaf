use Rattle.rounded_iter.proofs.least.least_upper_from.Given as goal

abbrev pub ghost-find : goal.ghost-find
ghost-find g a = g.spans
