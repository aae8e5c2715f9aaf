use Rattle.rounded_iter.specs.Watching.{AreNoted}
use Rattle.rounded_iter.proofs.guess.note.Given as goal

-- the numbers so far were noted
abbrev pub invariant-loop-s : goal.invariant-loop-s
invariant-loop-s l = AreNoted l.lane l.noted l.s
