use Rattle.rounded_iter.proofs.table.Table.find.Given as goal

abbrev pub ghost-rise : goal.ghost-rise
ghost-rise g a = g.spans

abbrev pub ghost-find_slow : goal.ghost-find_slow
ghost-find_slow g a = g.spans
