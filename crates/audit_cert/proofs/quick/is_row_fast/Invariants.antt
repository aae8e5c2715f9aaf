use Rattle.audit_cert.proofs.quick.is_row_fast.Given as goal

abbrev pub ghost-is_row_fast : goal.ghost-is_row_fast
ghost-is_row_fast g a = g.spans
