use Rattle.lift_cert.proofs.quick.is_state_held.Given as goal

abbrev pub ghost-is_row_held : goal.ghost-is_row_held
ghost-is_row_held g a = g.spans
