use Rattle.lower_cert.proofs.raise.approach_once.Given as goal

abbrev pub ghost-sweeps : goal.ghost-sweeps
ghost-sweeps g a = g.spans
