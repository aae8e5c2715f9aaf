use Rattle.rounded_iter.proofs.table.Table.rewarded_row.Given as goal

abbrev pub ghost-weigh : goal.ghost-weigh
ghost-weigh g a = g.spans
