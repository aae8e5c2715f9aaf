use Rattle.lower_cert.proofs.exit.exit_at_corner.Given as goal

abbrev pub ghost-table_value : goal.ghost-table_value
ghost-table_value g a = g.spans

abbrev pub ghost-table_whole : goal.ghost-table_whole
ghost-table_whole g a = g.spans

abbrev pub ghost-table_into : goal.ghost-table_into
ghost-table_into g a = g.spans
