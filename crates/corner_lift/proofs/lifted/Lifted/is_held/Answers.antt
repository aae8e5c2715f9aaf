use Rattle.std.proofs.Common.{to_z-of_z}
use Rattle.corner_lift.proofs.lifted.Lifted.is_held.Goals as goal

pub returns : goal.returns
returns g c = rw (to_z-of_z c.ranges.number, c.table.ensures) at c.is_held.ensures
