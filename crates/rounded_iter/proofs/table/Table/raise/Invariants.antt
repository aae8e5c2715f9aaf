use Rattle.rounded_iter.proofs.table.Table.raise.Given as goal

abbrev pub ghost-enough_for_state : goal.ghost-enough_for_state
ghost-enough_for_state g a = g.run.spans
