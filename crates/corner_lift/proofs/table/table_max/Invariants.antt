use Rattle.corner_lift.proofs.table.table_max.Given as goal

abbrev pub ghost-greatest : goal.ghost-greatest
ghost-greatest g a = g.spans
