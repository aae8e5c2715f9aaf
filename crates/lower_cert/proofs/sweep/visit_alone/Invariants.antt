use Rattle.lower_cert.proofs.sweep.visit_alone.Given as goal

abbrev pub ghost-lower_state : goal.ghost-lower_state
ghost-lower_state g a = g.run
