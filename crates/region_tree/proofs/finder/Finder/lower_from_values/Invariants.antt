use Rattle.region_tree.proofs.finder.Finder.lower_from_values.Given as goal

abbrev pub ghost-greatest_reject_from : goal.ghost-greatest_reject_from
ghost-greatest_reject_from g a = g.spans
