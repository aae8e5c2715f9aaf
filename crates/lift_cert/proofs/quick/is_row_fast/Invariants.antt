use Rattle.lift_cert.proofs.quick.is_row_fast.Given as goal

abbrev pub ghost-least_into : goal.ghost-least_into
ghost-least_into g a = g.spans
