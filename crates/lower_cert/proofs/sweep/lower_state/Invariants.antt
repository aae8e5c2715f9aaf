use Rattle.lower_cert.proofs.sweep.lower_state.Given as goal

abbrev pub ghost-most_held : goal.ghost-most_held
ghost-most_held g a = g.run.spans
