use Rattle.lower_cert.proofs.descent.Descent.reject_from.Given as goal

abbrev pub ghost-descend : goal.ghost-descend
ghost-descend g a = g.spans

abbrev pub ghost-rate_of : goal.ghost-rate_of
ghost-rate_of g a = g.spans
