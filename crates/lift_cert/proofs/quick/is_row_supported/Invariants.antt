use Rattle.lift_cert.proofs.quick.is_row_supported.Given as goal

abbrev pub ghost-is_held : goal.ghost-is_held
ghost-is_held g a = g.spans
