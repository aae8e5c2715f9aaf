use Rattle.lower_cert.proofs.raise.raise_turn.Given as goal

abbrev pub ghost-raised : goal.ghost-raised
ghost-raised g a = g.spans
