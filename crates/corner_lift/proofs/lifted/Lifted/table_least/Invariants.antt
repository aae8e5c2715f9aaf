use Rattle.corner_lift.proofs.lifted.Lifted.table_least.Given as goal

abbrev pub ghost-least : goal.ghost-least
ghost-least g a = g.spans
