use Rattle.lift_cert.proofs.quick.is_row_held.Given as goal

abbrev pub ghost-is_row_supported : goal.ghost-is_row_supported
ghost-is_row_supported g a = g.spans

abbrev pub ghost-is_row_fast : goal.ghost-is_row_fast
ghost-is_row_fast g a = g.spans
