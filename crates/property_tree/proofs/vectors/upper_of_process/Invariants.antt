use Rattle.property_tree.proofs.vectors.upper_of_process.Given as goal

abbrev pub ghost-least_one_within : goal.ghost-least_one_within
ghost-least_one_within g a = g.spans

abbrev pub ghost-guess : goal.ghost-guess
ghost-guess g a = g.spans
