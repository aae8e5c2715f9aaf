use Rattle.lower_cert.proofs.lower.only_holds.Given as goal

abbrev pub ghost-pair_holds : goal.ghost-pair_holds
ghost-pair_holds g a = g.spans
