use Rattle.lower_cert.proofs.descent.Descent.fall_alone.Given as goal

abbrev pub ghost-fall_beside : goal.ghost-fall_beside
ghost-fall_beside g a = g.run
