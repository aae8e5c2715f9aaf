use Rattle.std.proofs.Common.{◌≡◌, take}
use Rattle.corner_lift.specs.Case.{number}
use Rattle.corner_lift.specs.Dot.{dot}
use Rattle.corner_lift.proofs.table.wide_sum.Given as goal

-- the targets so far were summed
abbrev pub invariant-loop-j : goal.invariant-loop-j
invariant-loop-j l = l.sum ≡ dot (number l.vec) (take l.j l.weights) (take l.j l.targets)
