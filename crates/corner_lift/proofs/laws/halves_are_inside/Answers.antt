use Rattle.corner_lift.proofs.HalvesInside.{halves_inside}
use Rattle.corner_lift.proofs.laws.halves_are_inside.Goals as goal

pub returns : goal.returns
returns c root spans n axis inside left below = halves_inside c.halves_stay_on_grid.ensures.halves root spans n axis inside left below
