use Rattle.lower_cert.proofs.lower.is_allowed.Given as goal

abbrev pub ghost-holds : goal.ghost-holds
ghost-holds g a = g.spans

abbrev pub ghost-is_held : goal.ghost-is_held
ghost-is_held g a = g.spans
