use Rattle.rounded_iter.proofs.table.Table.raise_component.Given as goal

abbrev pub ghost-rise_beside : goal.ghost-rise_beside
ghost-rise_beside g a = g.run

abbrev pub ghost-hold : goal.ghost-hold
ghost-hold g a = g.run
