use Rattle.audit_cert.proofs.quick_kinds.is_cost.Given as goal

abbrev pub ghost-passes : goal.ghost-passes
ghost-passes g a = g.spans
