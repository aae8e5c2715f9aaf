use Rattle.rounded_iter.proofs.priced.least_priced_within.Given as goal

abbrev pub ghost-least_bound : goal.ghost-least_bound
ghost-least_bound g a = g.spans

abbrev pub ghost-pays_all : goal.ghost-pays_all
ghost-pays_all g a = g.spans

abbrev pub ghost-has_endless : goal.ghost-has_endless
ghost-has_endless g a = g.spans
