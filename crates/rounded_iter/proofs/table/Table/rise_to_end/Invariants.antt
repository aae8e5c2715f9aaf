use Rattle.rounded_iter.proofs.table.Table.rise_to_end.Given as goal

abbrev pub ghost-rise : goal.ghost-rise
ghost-rise g a = g.spans

abbrev pub ghost-rise_held : goal.ghost-rise_held
ghost-rise_held g a = g.spans
