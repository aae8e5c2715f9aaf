use Rattle.std.proofs.Common.{arith}
use Rattle.corner_lift.proofs.lifted.Lifted.position.Goals as goal

pub position-requires : goal.position-requires
position-requires c = let state = rw (← c.self.view_is) at c.requires in omega (arith, state, c.self.invariant.links.laid.states)
