use Rattle.lower_cert.proofs.sweep.held_by_only_pair.Given as goal

abbrev pub ghost-least_of : goal.ghost-least_of
ghost-least_of g a = g.spans
