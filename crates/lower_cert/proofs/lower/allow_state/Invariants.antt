use Rattle.lower_cert.proofs.lower.allow_state.Given as goal

abbrev pub ghost-only_holds : goal.ghost-only_holds
ghost-only_holds g a = g.spans

abbrev pub ghost-allow_choices : goal.ghost-allow_choices
ghost-allow_choices g a = g.spans
