use Rattle.property_tree.proofs.vectors.lower_of_chain.Given as goal

abbrev pub ghost-greatest_lower_above : goal.ghost-greatest_lower_above
ghost-greatest_lower_above g a = g.spans
