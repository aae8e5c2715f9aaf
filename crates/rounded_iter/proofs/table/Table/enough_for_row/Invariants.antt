use Rattle.rounded_iter.proofs.table.Table.enough_for_row.Given as goal

abbrev pub ghost-weigh : goal.ghost-weigh
ghost-weigh g a = g.spans
