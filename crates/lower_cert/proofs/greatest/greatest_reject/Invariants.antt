use Rattle.lower_cert.proofs.greatest.greatest_reject.Given as goal

abbrev pub ghost-begin : goal.ghost-begin
ghost-begin g a = g.spans

abbrev pub ghost-descend : goal.ghost-descend
ghost-descend g a = g.spans

abbrev pub ghost-rate_of : goal.ghost-rate_of
ghost-rate_of g a = g.spans
