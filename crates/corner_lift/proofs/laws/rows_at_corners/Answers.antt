use Rattle.corner_lift.specs.Premises.{Premises}
use Rattle.corner_lift.proofs.RowLaws.{bits_are_parameters, parameters_are_the_roots, numbers_are_in_range, sums_are_in_range, sums_rise, sums_are_at_most, sums_are_at_least}
use Rattle.corner_lift.proofs.laws.rows_at_corners.Goals as goal

pub returns : goal.returns
returns c =
    let laws : Premises = record { affine = c.weights_follow.ensures.affine; least = c.weighted_sums_follow.ensures.least; rise = c.weighted_sums_follow.ensures.rise } in
    record { bits = bits_are_parameters; parameters = parameters_are_the_roots; numbers = numbers_are_in_range; range = sums_are_in_range laws; rise = sums_rise laws; most = sums_are_at_most laws; least = sums_are_at_least laws }
