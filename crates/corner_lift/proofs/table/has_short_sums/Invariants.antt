use Rattle.corner_lift.proofs.table.has_short_sums.Given as goal

abbrev pub ghost-table_whole : goal.ghost-table_whole
ghost-table_whole g a = g.spans
