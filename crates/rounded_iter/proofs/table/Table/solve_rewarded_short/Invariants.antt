use Rattle.rounded_iter.proofs.table.Table.solve_rewarded_short.Given as goal

abbrev pub ghost-table_others : goal.ghost-table_others
ghost-table_others g a = g.spans
