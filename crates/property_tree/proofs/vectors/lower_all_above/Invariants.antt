use Rattle.property_tree.proofs.vectors.lower_all_above.Given as goal

abbrev pub ghost-lower_of_chain : goal.ghost-lower_of_chain
ghost-lower_of_chain g a = g.spans

abbrev pub ghost-lower_of_process : goal.ghost-lower_of_process
ghost-lower_of_process g a = g.spans
