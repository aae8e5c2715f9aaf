use Rattle.rounded_iter.proofs.table.Table.turn.Given as goal

abbrev pub ghost-visit : goal.ghost-visit
ghost-visit g a = g.run
