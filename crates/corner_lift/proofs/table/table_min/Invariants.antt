use Rattle.corner_lift.proofs.table.table_min.Given as goal

abbrev pub ghost-least : goal.ghost-least
ghost-least g a = g.spans
