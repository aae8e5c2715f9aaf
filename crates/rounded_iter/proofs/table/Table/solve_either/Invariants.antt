use Rattle.rounded_iter.proofs.table.Table.solve_either.Given as goal

abbrev pub ghost-solve_short : goal.ghost-solve_short
ghost-solve_short g a = g.spans

abbrev pub ghost-solve_corner : goal.ghost-solve_corner
ghost-solve_corner g a = g.spans
