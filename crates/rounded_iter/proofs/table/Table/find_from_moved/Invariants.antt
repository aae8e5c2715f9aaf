use Rattle.rounded_iter.specs.Watching.{IsGuess}
use Rattle.rounded_iter.proofs.table.Table.find_from_moved.Given as goal

abbrev pub ghost-find_from_guess : goal.ghost-find_from_guess
ghost-find_from_guess g a = g.spans

abbrev pub ghost-find_from_rounded : goal.ghost-find_from_rounded
ghost-find_from_rounded g a = g.spans

-- the vector may be guessed anew
abbrev pub invariant-loop : goal.invariant-loop
invariant-loop g l = IsGuess l.self.rule l.self.case l.lane
