use Rattle.lift_cert.proofs.quick.is_state_accepted.Given as goal

abbrev pub ghost-are_rows_accepted : goal.ghost-are_rows_accepted
ghost-are_rows_accepted g a = g.spans
