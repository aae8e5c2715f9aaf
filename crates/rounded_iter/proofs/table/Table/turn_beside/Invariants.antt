use Rattle.rounded_iter.proofs.table.Table.turn_beside.Given as goal

abbrev pub ghost-raise_lone : goal.ghost-raise_lone
ghost-raise_lone g a = g.run
