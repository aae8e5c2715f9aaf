use Rattle.corner_lift.proofs.lifted.Lifted.table_greatest.Given as goal

abbrev pub ghost-greatest : goal.ghost-greatest
ghost-greatest g a = g.spans
