use Rattle.property_tree.proofs.vectors.lower_of_process.Given as goal

abbrev pub ghost-greatest_all_above : goal.ghost-greatest_all_above
ghost-greatest_all_above g a = g.spans

abbrev pub ghost-guess : goal.ghost-guess
ghost-guess g a = g.spans
