use Rattle.rounded_iter.proofs.table.Table.try_few.Given as goal

abbrev pub ghost-settle_all : goal.ghost-settle_all
ghost-settle_all g a = g.run

abbrev pub ghost-climb : goal.ghost-climb
ghost-climb g a = g.run
