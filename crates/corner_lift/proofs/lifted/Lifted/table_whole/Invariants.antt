use Rattle.corner_lift.proofs.lifted.Lifted.table_whole.Given as goal

abbrev pub ghost-table_whole : goal.ghost-table_whole
ghost-table_whole g a = g.spans
