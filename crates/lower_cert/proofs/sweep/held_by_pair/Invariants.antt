use Rattle.lower_cert.proofs.sweep.held_by_pair.Given as goal

abbrev pub ghost-least : goal.ghost-least
ghost-least g a = g.spans
