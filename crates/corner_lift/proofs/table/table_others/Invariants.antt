use Rattle.corner_lift.proofs.table.table_others.Given as goal

abbrev pub ghost-others : goal.ghost-others
ghost-others g a = g.spans
