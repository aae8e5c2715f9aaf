use Rattle.lower_cert.proofs.greatest.greatest_reject_from.Given as goal

abbrev pub ghost-reject_from : goal.ghost-reject_from
ghost-reject_from g a = g.spans
