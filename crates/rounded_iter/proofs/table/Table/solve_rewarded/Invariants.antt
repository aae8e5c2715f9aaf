use Rattle.rounded_iter.proofs.table.Table.solve_rewarded.Given as goal

abbrev pub ghost-table_corner : goal.ghost-table_corner
ghost-table_corner g a = g.spans
