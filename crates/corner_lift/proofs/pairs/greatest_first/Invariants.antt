use Rattle.std.proofs.Common.{◌*◌, ◌-◌, ◌≤◌, length}
use Rattle.corner_lift.specs.Case.{number, IsGreatest}
use Rattle.corner_lift.proofs.pairs.greatest_first.Given as goal

-- the greatest of the corners before this one
abbrev pub invariant-loop-corner : goal.invariant-loop-corner
invariant-loop-corner l = (2 * l.corner ≤ length l.block) × IsGreatest (λ c. number l.block (2 * c)) l.corner l.greatest

abbrev pub decreases-loop-corner : goal.decreases-loop-corner
decreases-loop-corner l = length l.block - l.corner
