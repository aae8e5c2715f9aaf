use Rattle.region_tree.proofs.finder.Finder.least_upper.Given as goal

abbrev pub ghost-least_upper_within : goal.ghost-least_upper_within
ghost-least_upper_within g a = g.spans

abbrev pub ghost-least_upper_within-2 : goal.ghost-least_upper_within-2
ghost-least_upper_within-2 g a = g.spans
