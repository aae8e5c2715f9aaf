use Rattle.corner_lift.specs.Premises.{Premises}
use Rattle.corner_lift.proofs.CornerEnds.{corners_bound_weights_lem, weights_least, weights_sum, corners_choose}
use Rattle.corner_lift.proofs.laws.corners_bound_weights.Goals as goal

pub returns : goal.returns
returns c =
    let laws : Premises = record { affine = c.weights_follow.ensures.affine; least = c.weighted_sums_follow.ensures.least; rise = c.weighted_sums_follow.ensures.rise } in
    record { bound = corners_bound_weights_lem laws; least = weights_least laws; sum = weights_sum laws; ends = corners_choose }
