use Rattle.lower_cert.proofs.lower.rank_states.Given as goal

abbrev pub ghost-allow : goal.ghost-allow
ghost-allow g a = g.spans

abbrev pub ghost-attract : goal.ghost-attract
ghost-attract g a = g.spans
