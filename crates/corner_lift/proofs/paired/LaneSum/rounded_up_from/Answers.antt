use Rattle.std.proofs.Common.{to_z-of_z}
use Rattle.corner_lift.proofs.Quotients.{some_scaled}
use Rattle.corner_lift.proofs.paired.LaneSum.rounded_up_from.Goals as goal

pub returns : goal.returns
returns c = some_scaled c.args.number c.args.self.sum c.args.self.whole c.own_rounded_up_from.result (rw (to_z-of_z c.ranges.number) at c.own_rounded_up_from.ensures)
