use Rattle.rounded_iter.proofs.table.Table.rise_held_from_zero.Given as goal

abbrev pub ghost-start : goal.ghost-start
ghost-start g a = g.spans

abbrev pub ghost-rise_held : goal.ghost-rise_held
ghost-rise_held g a = g.spans
