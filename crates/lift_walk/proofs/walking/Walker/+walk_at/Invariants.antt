use Rattle.std.proofs.Common.{◌-◌}
use Rattle.corner_lift.specs.Case.{greatest_depth}
use Rattle.lift_walk.proofs.walking.Walker.+walk_at.Given as goal

abbrev pub decreases-walk_at : goal.decreases-walk_at
decreases-walk_at g l = greatest_depth l.self.now.case.now - l.place.depth
