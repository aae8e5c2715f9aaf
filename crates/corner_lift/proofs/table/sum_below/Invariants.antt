use Rattle.std.proofs.Common.{◌≡◌, take}
use Rattle.corner_lift.specs.Certificate.{mark, ranked_below}
use Rattle.corner_lift.specs.Dot.{dot}
use Rattle.corner_lift.proofs.table.sum_below.Given as goal

-- the targets so far were summed
abbrev pub invariant-loop-j : goal.invariant-loop-j
invariant-loop-j l = l.sum ≡ dot (ranked_below (mark l.ranks) l.below) (take l.j l.weights) (take l.j l.targets)
