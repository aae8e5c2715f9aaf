use Rattle.region_tree.proofs.finder.Finder.least_upper_within.Given as goal

abbrev pub ghost-least_upper : goal.ghost-least_upper
ghost-least_upper g a = g.spans
