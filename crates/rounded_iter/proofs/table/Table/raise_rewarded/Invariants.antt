use Rattle.rounded_iter.proofs.table.Table.raise_rewarded.Given as goal

abbrev pub ghost-rewarded_state : goal.ghost-rewarded_state
ghost-rewarded_state g a = g.run.spans
