use Rattle.region_tree.proofs.finder.Finder.greatest_lower_above.Given as goal

abbrev pub ghost-lower_from_ones : goal.ghost-lower_from_ones
ghost-lower_from_ones g a = g.spans

abbrev pub ghost-lower_above : goal.ghost-lower_above
ghost-lower_above g a = g.spans

abbrev pub ghost-lower_from_values : goal.ghost-lower_from_values
ghost-lower_from_values g a = g.spans
