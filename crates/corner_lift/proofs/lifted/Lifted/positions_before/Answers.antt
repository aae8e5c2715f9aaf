use Rattle.std.proofs.Common.{arith}
use Rattle.corner_lift.proofs.lifted.Lifted.positions_before.Goals as goal

pub positions_before-requires : goal.positions_before-requires
positions_before-requires c = let state = rw (← c.self.view_is) at c.requires in omega (arith, state, c.self.invariant.links.laid.states)
