use Rattle.lower_cert.proofs.lower.pair_holds.Given as goal

abbrev pub ghost-least_of : goal.ghost-least_of
ghost-least_of g a = g.spans
