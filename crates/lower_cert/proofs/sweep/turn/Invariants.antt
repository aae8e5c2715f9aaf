use Rattle.lower_cert.proofs.sweep.turn.Given as goal

abbrev pub ghost-visit : goal.ghost-visit
ghost-visit g a = g.run
