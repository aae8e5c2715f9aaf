use Rattle.rounded_iter.proofs.table.Table.solve_rewarded_either.Given as goal

abbrev pub ghost-solve_rewarded_short : goal.ghost-solve_rewarded_short
ghost-solve_rewarded_short g a = g.spans

abbrev pub ghost-solve_rewarded : goal.ghost-solve_rewarded
ghost-solve_rewarded g a = g.spans
