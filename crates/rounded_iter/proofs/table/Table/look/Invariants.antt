use Rattle.rounded_iter.proofs.table.Table.look.Given as goal

abbrev pub ghost-try_held : goal.ghost-try_held
ghost-try_held g a = g.run
