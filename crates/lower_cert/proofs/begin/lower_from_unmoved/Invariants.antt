use Rattle.lower_cert.proofs.begin.lower_from_unmoved.Given as goal

abbrev pub ghost-lower_from_guess : goal.ghost-lower_from_guess
ghost-lower_from_guess g a = g.spans
