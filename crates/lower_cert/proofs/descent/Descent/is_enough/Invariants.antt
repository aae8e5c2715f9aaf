use Rattle.lower_cert.proofs.descent.Descent.is_enough.Given as goal

abbrev pub ghost-visit : goal.ghost-visit
ghost-visit g a = g.run
