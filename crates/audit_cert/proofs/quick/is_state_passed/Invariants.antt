use Rattle.audit_cert.proofs.quick.is_state_passed.Given as goal

abbrev pub ghost-are_rows_passed : goal.ghost-are_rows_passed
ghost-are_rows_passed g a = g.spans
