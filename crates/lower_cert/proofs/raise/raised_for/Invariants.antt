use Rattle.lower_cert.proofs.raise.raised_for.Given as goal

abbrev pub ghost-least : goal.ghost-least
ghost-least g a = g.spans

abbrev pub ghost-table_least : goal.ghost-table_least
ghost-table_least g a = g.spans
