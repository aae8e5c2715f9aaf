use Rattle.property_tree.proofs.vectors.guess.Given as goal

abbrev pub ghost-guess : goal.ghost-guess
ghost-guess g a = g.spans
