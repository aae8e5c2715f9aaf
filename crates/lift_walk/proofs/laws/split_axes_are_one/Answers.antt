use Rattle.lift_walk.proofs.Axis.{axis_is_one}
use Rattle.lift_walk.proofs.laws.split_axes_are_one.Goals as goal

pub returns : goal.returns
returns c live spans i j h g = axis_is_one live spans i j h g
