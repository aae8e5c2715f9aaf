use Rattle.rounded_iter.specs.Watching.{IsGuess}
use Rattle.rounded_iter.proofs.table.Table.find_from_rounded.Given as goal

abbrev pub ghost-rise_from_guess : goal.ghost-rise_from_guess
ghost-rise_from_guess g a = g.spans

abbrev pub ghost-rise : goal.ghost-rise
ghost-rise g a = g.spans

-- the vector may be guessed anew
abbrev pub invariant-loop-tried : goal.invariant-loop-tried
invariant-loop-tried g l = IsGuess l.self.rule l.self.case l.lane

abbrev pub ghost-rise_held : goal.ghost-rise_held
ghost-rise_held g a = g.spans
