use Rattle.lower_cert.proofs.greatest.rate_of.Given as goal

abbrev pub ghost-rate : goal.ghost-rate
ghost-rate g a = g.spans
