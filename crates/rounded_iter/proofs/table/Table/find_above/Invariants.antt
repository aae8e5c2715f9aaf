use Rattle.rounded_iter.proofs.table.Table.find_above.Given as goal

abbrev pub ghost-find : goal.ghost-find
ghost-find g a = g.spans
