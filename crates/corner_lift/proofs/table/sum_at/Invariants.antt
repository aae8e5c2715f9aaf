use Rattle.std.proofs.Common.{◌≡◌, take}
use Rattle.corner_lift.specs.Dot.{dot, only_at}
use Rattle.corner_lift.proofs.table.sum_at.Given as goal

-- the targets so far were summed
abbrev pub invariant-loop-j : goal.invariant-loop-j
invariant-loop-j l = l.sum ≡ dot (only_at l.s) (take l.j l.weights) (take l.j l.targets)
