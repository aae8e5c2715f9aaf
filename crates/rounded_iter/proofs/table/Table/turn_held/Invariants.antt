use Rattle.rounded_iter.proofs.table.Table.turn_held.Given as goal

abbrev pub ghost-turn_beside : goal.ghost-turn_beside
ghost-turn_beside g a = g.run
