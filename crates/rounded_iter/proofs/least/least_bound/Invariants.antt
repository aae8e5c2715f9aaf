use Rattle.rounded_iter.proofs.least.least_bound.Given as goal

abbrev pub ghost-start : goal.ghost-start
ghost-start g a = g.spans

abbrev pub ghost-find : goal.ghost-find
ghost-find g a = g.spans
