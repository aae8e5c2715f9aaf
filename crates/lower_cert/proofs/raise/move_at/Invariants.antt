use Rattle.lower_cert.proofs.raise.move_at.Given as goal

abbrev pub ghost-raised : goal.ghost-raised
ghost-raised g a = g.spans
