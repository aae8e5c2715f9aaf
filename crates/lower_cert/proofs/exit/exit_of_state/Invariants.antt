use Rattle.lower_cert.proofs.exit.exit_of_state.Given as goal

abbrev pub ghost-exit_of_choices : goal.ghost-exit_of_choices
ghost-exit_of_choices g a = g.spans
