use Rattle.rounded_iter.proofs.table.Table.rise_from_guesses.Given as goal

abbrev pub ghost-rise_from_guess : goal.ghost-rise_from_guess
ghost-rise_from_guess g a = g.spans

abbrev pub ghost-find_from_moved : goal.ghost-find_from_moved
ghost-find_from_moved g a = g.spans

abbrev pub ghost-find_from_guess : goal.ghost-find_from_guess
ghost-find_from_guess g a = g.spans

abbrev pub ghost-rise_nearby : goal.ghost-rise_nearby
ghost-rise_nearby g a = g.spans

abbrev pub ghost-rise_held_from_zero : goal.ghost-rise_held_from_zero
ghost-rise_held_from_zero g a = g.spans
