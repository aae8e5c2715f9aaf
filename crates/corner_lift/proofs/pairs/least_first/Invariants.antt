use Rattle.std.proofs.Common.{◌*◌, ◌-◌, ◌≤◌, length}
use Rattle.corner_lift.specs.Case.{number, IsLeast}
use Rattle.corner_lift.proofs.pairs.least_first.Given as goal

-- the least of the corners before this one
abbrev pub invariant-loop-corner : goal.invariant-loop-corner
invariant-loop-corner l = (2 * l.corner ≤ length l.block) × IsLeast (λ c. number l.block (2 * c)) l.corner l.least

abbrev pub decreases-loop-corner : goal.decreases-loop-corner
decreases-loop-corner l = length l.block - l.corner
