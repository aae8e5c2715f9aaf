use Rattle.rounded_iter.proofs.table.Table.rise_from_zero.Given as goal

abbrev pub ghost-start : goal.ghost-start
ghost-start g a = g.spans

abbrev pub ghost-rise : goal.ghost-rise
ghost-rise g a = g.spans
