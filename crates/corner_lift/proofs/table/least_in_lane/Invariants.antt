use Rattle.std.proofs.Common.{◌*◌}
use Rattle.corner_lift.specs.Case.{number, IsLeast}
use Rattle.corner_lift.specs.Dot.{dot, corner_part}
use Rattle.corner_lift.proofs.table.least_in_lane.Given as goal

-- the least of the pairs of corners so far
abbrev pub invariant-loop-pair : goal.invariant-loop-pair
invariant-loop-pair l = IsLeast (λ c. dot (number l.vec) (corner_part l.weights l.place c) l.targets) (2 * l.pair) l.least
