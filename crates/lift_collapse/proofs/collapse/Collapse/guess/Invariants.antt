use Rattle.lift_collapse.proofs.collapse.Collapse.guess.Given as goal

abbrev pub ghost-guess : goal.ghost-guess
ghost-guess g a = g.spans
