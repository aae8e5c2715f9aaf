use Rattle.lift_bounded.proofs.steps.held_by_row.Given as goal

abbrev pub ghost-table_least : goal.ghost-table_least
ghost-table_least g a = g.spans
