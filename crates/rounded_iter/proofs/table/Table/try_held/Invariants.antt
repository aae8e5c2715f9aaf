use Rattle.rounded_iter.proofs.table.Table.try_held.Given as goal

abbrev pub ghost-set_held : goal.ghost-set_held
ghost-set_held g a = g.run

abbrev pub ghost-raise_to : goal.ghost-raise_to
ghost-raise_to g a = g.run

abbrev pub ghost-rise_held_at : goal.ghost-rise_held_at
ghost-rise_held_at g a = g.run
