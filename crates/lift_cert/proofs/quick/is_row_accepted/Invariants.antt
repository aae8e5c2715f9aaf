use Rattle.lift_cert.proofs.quick.is_row_accepted.Given as goal

abbrev pub ghost-is_capped : goal.ghost-is_capped
ghost-is_capped g a = g.spans
