use Rattle.audit_cert.proofs.quick.is_row_met.Given as goal

abbrev pub ghost-is_capped : goal.ghost-is_capped
ghost-is_capped g a = g.spans

abbrev pub ghost-is_held : goal.ghost-is_held
ghost-is_held g a = g.spans
