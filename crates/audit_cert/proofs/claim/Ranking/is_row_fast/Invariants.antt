use Rattle.audit_cert.proofs.claim.Ranking.is_row_fast.Given as goal

abbrev pub ghost-least_into : goal.ghost-least_into
ghost-least_into g a = g.spans
