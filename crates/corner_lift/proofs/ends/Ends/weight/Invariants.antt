use Rattle.corner_lift.proofs.Summing.{IsWeighed}
use Rattle.corner_lift.proofs.ends.Ends.weight.Given as goal

-- the terms so far were weighed
abbrev pub invariant-loop-index : goal.invariant-loop-index
invariant-loop-index l = IsWeighed l.d l.self l.poly l.sum l.index
