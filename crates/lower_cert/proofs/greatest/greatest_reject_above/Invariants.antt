use Rattle.lower_cert.proofs.greatest.greatest_reject_above.Given as goal

abbrev pub ghost-begin : goal.ghost-begin
ghost-begin g a = g.spans

abbrev pub ghost-reject_from : goal.ghost-reject_from
ghost-reject_from g a = g.spans
