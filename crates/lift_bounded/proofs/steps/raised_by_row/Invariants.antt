use Rattle.lift_bounded.proofs.steps.raised_by_row.Given as goal

abbrev pub ghost-table_greatest : goal.ghost-table_greatest
ghost-table_greatest g a = g.spans
