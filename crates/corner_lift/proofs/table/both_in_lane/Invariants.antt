use Rattle.std.proofs.Common.{◌≡◌, take}
use Rattle.corner_lift.specs.Case.{number}
use Rattle.corner_lift.specs.Dot.{dot}
use Rattle.corner_lift.proofs.table.both_in_lane.Given as goal

-- the targets so far were summed
abbrev pub invariant-loop-j : goal.invariant-loop-j
invariant-loop-j l = record {
  first : l.first ≡ dot (number l.vec) (take l.j l.low) (take l.j l.targets);
  second : l.second ≡ dot (number l.vec) (take l.j l.high) (take l.j l.targets);
}
