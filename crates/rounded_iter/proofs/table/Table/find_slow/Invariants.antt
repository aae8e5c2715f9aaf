use Rattle.rounded_iter.specs.Watching.{IsGuess}
use Rattle.rounded_iter.proofs.table.Table.find_slow.Given as goal

abbrev pub ghost-rise_from_guesses : goal.ghost-rise_from_guesses
ghost-rise_from_guesses g a = g.spans

abbrev pub ghost-find_from_guess : goal.ghost-find_from_guess
ghost-find_from_guess g a = g.spans

abbrev pub ghost-rise_from_zero : goal.ghost-rise_from_zero
ghost-rise_from_zero g a = g.spans

-- the vector may be guessed anew
abbrev pub invariant-loop : goal.invariant-loop
invariant-loop g l = IsGuess l.self.rule l.self.case l.lane

abbrev pub ghost-rise_held_from_zero : goal.ghost-rise_held_from_zero
ghost-rise_held_from_zero g a = g.spans
