use Rattle.corner_lift.proofs.corner_table.CornerTable.greatest.Given as goal

abbrev pub ghost-row : goal.ghost-row
ghost-row g a = g.spans
