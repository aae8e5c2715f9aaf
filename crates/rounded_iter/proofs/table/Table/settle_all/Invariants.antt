use Rattle.rounded_iter.proofs.table.Table.settle_all.Given as goal

abbrev pub ghost-settle : goal.ghost-settle
ghost-settle g a = g.run
