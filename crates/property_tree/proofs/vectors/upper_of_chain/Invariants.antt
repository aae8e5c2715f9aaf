use Rattle.property_tree.proofs.vectors.upper_of_chain.Given as goal

abbrev pub ghost-least_upper_within : goal.ghost-least_upper_within
ghost-least_upper_within g a = g.spans
