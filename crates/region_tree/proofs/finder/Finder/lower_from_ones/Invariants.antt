use Rattle.region_tree.proofs.finder.Finder.lower_from_ones.Given as goal

abbrev pub ghost-greatest_reject_above : goal.ghost-greatest_reject_above
ghost-greatest_reject_above g a = g.spans
