use Rattle.audit_cert.proofs.quick_kinds.is_upper_one.Given as goal

abbrev pub ghost-passes : goal.ghost-passes
ghost-passes g a = g.spans
