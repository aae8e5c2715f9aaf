use Rattle.audit_cert.proofs.quick.are_rows_passed.Given as goal

abbrev pub ghost-is_each_row_passed : goal.ghost-is_each_row_passed
ghost-is_each_row_passed g a = g.spans

abbrev pub ghost-is_row_passed : goal.ghost-is_row_passed
ghost-is_row_passed g a = g.spans
