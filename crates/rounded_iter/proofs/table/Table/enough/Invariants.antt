use Rattle.rounded_iter.proofs.table.Table.enough.Given as goal

abbrev pub ghost-enough_by_weights : goal.ghost-enough_by_weights
ghost-enough_by_weights g a = g.spans
