use Rattle.std.proofs.Common.{◌≡◌, take}
use Rattle.corner_lift.specs.Dot.{total}
use Rattle.corner_lift.proofs.table.total_of.Given as goal

-- the weights so far were summed
abbrev pub invariant-loop-weight : goal.invariant-loop-weight
invariant-loop-weight l = l.sum ≡ total (take l.weight-index l.weights)
