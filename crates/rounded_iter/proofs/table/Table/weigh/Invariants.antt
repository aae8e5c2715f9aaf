use Rattle.rounded_iter.proofs.table.Table.weigh.Given as goal

abbrev pub ghost-table_greatest : goal.ghost-table_greatest
ghost-table_greatest g a = g.spans

abbrev pub ghost-table_least : goal.ghost-table_least
ghost-table_least g a = g.spans
