use Rattle.property_tree.proofs.vectors.upper_one_within.Given as goal

abbrev pub ghost-upper_of_chain : goal.ghost-upper_of_chain
ghost-upper_of_chain g a = g.spans

abbrev pub ghost-upper_of_process : goal.ghost-upper_of_process
ghost-upper_of_process g a = g.spans
