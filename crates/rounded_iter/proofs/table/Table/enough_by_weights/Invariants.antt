use Rattle.rounded_iter.proofs.table.Table.enough_by_weights.Given as goal

abbrev pub ghost-solve : goal.ghost-solve
ghost-solve g a = g.spans

abbrev pub ghost-enough_for_pair : goal.ghost-enough_for_pair
ghost-enough_for_pair g a = g.spans

abbrev pub ghost-enough_for_row : goal.ghost-enough_for_row
ghost-enough_for_row g a = g.spans
