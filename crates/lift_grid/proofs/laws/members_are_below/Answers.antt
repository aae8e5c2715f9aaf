use Rattle.lift_grid.proofs.Sides.{bit_below}
use Rattle.lift_grid.proofs.laws.members_are_below.Goals as goal

pub returns : goal.returns
returns c n set i small bit = bit_below n set i small bit
