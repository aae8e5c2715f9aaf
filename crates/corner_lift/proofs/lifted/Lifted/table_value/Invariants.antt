use Rattle.corner_lift.proofs.lifted.Lifted.table_value.Given as goal

abbrev pub ghost-table_value : goal.ghost-table_value
ghost-table_value g a = g.spans
