use Rattle.rounded_iter.proofs.table.Table.find_from_guess.Given as goal

abbrev pub ghost-rise_from_guess : goal.ghost-rise_from_guess
ghost-rise_from_guess g a = g.spans

abbrev pub ghost-rise_to_end : goal.ghost-rise_to_end
ghost-rise_to_end g a = g.spans
