use Rattle.rounded_iter.proofs.table.Table.short_price.Given as goal

abbrev pub ghost-has_short_sums : goal.ghost-has_short_sums
ghost-has_short_sums g a = g.spans

abbrev pub ghost-table_whole : goal.ghost-table_whole
ghost-table_whole g a = g.spans
