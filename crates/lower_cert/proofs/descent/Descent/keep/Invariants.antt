use Rattle.lower_cert.proofs.descent.Descent.keep.Given as goal

abbrev pub ghost-keep_settled : goal.ghost-keep_settled
ghost-keep_settled g a = g.run

abbrev pub ghost-is_enough : goal.ghost-is_enough
ghost-is_enough g a = g.run
