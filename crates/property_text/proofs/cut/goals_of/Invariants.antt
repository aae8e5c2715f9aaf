use Rattle.std.proofs.Common.{◌≡◌, take}
use Rattle.property_text.proofs.cut.goals_of.Given as goal

-- the marks so far
abbrev pub invariant-loop-s : goal.invariant-loop-s
invariant-loop-s l = l.goals.items ≡ take l.s l.model.goal
