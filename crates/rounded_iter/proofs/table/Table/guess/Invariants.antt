use Rattle.rounded_iter.specs.Watching.{IsGuess}
use Rattle.rounded_iter.proofs.table.Table.guess.Given as goal

-- what was guessed so far is one
abbrev pub invariant-loop-position : goal.invariant-loop-position
invariant-loop-position l = IsGuess l.self.rule l.self.case l.lane
