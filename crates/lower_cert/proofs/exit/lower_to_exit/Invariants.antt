use Rattle.lower_cert.proofs.exit.lower_to_exit.Given as goal

abbrev pub ghost-best_exit : goal.ghost-best_exit
ghost-best_exit g a = g.spans
