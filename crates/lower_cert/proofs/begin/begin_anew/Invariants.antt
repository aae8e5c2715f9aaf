use Rattle.lower_cert.proofs.begin.begin_anew.Given as goal

abbrev pub ghost-raise_part : goal.ghost-raise_part
ghost-raise_part g a = g.spans
