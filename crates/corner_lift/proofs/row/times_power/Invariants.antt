use Rattle.std.proofs.Common.{◌*ℤ◌}
use Rattle.lift_model.specs.Process.{power}
use Rattle.corner_lift.proofs.Cases.{IsRaised}
use Rattle.corner_lift.proofs.row.times_power.Given as goal

-- the factors that are left make the power
abbrev pub invariant-loop-left : goal.invariant-loop-left
invariant-loop-left l = IsRaised l.d (l.first *ℤ power l.d l.count) l.product l.left

abbrev pub decreases-loop-left : goal.decreases-loop-left
decreases-loop-left l = l.left
