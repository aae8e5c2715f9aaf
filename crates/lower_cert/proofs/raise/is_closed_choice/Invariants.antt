use Rattle.lower_cert.proofs.raise.is_closed_choice.Given as goal

abbrev pub ghost-table_least : goal.ghost-table_least
ghost-table_least g a = g.spans
