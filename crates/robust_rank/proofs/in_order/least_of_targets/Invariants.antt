use Rattle.std.proofs.Common.{◌≤◌, take}
use Rattle.corner_lift.specs.Certificate.{mark}
use Rattle.robust_rank.specs.InOrder.{AreClear}
use Rattle.robust_rank.proofs.in_order.least_of_targets.Given as goal

abbrev pub invariant-loop-target : goal.invariant-loop-target
invariant-loop-target l = record {
  from : l.from ≤ l.to;
  least : l.to ≤ l.least;
  clear : AreClear (mark l.ranks) l.from l.to (take l.target-index l.targets);
}
