use Rattle.corner_lift.specs.Premises.{Premises}
use Rattle.corner_lift.proofs.RowLaws.{weights_inside, sums_are_totals, means_at_most_inside, means_at_least_inside, root_is_inside}
use Rattle.corner_lift.proofs.laws.rows_inside.Goals as goal

pub returns : goal.returns
returns c =
    let laws : Premises = record { affine = c.weights_follow.ensures.affine; least = c.weighted_sums_follow.ensures.least; rise = c.weighted_sums_follow.ensures.rise } in
    record { weights = weights_inside laws; sums = sums_are_totals; most = means_at_most_inside laws; least = means_at_least_inside laws; root = root_is_inside }
