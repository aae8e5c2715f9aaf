use Rattle.std.proofs.Common.{◌≡◌, pos, take}
use Rattle.corner_lift.specs.Case.{number}
use Rattle.corner_lift.specs.Dot.{dot, but_at}
use Rattle.corner_lift.proofs.table.others_in_lane.Given as goal

-- the targets so far were summed
abbrev pub invariant-loop-j : goal.invariant-loop-j
invariant-loop-j l = record {
  sum : l.sum ≡ dot (but_at l.s (number l.vec)) (take l.j l.weights) (take l.j l.targets);
  whole : l.whole ≡ dot (but_at l.s (λ t. pos 1)) (take l.j l.weights) (take l.j l.targets);
}
