use Rattle.lower_cert.proofs.greatest.lower_unranked.Given as goal

abbrev pub ghost-begin : goal.ghost-begin
ghost-begin g a = g.spans
