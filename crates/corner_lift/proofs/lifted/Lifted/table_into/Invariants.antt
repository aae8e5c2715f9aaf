use Rattle.corner_lift.proofs.lifted.Lifted.table_into.Given as goal

abbrev pub ghost-table_into : goal.ghost-table_into
ghost-table_into g a = g.spans
