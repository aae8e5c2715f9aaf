use Rattle.lift_dual.proofs.Chains.{least_is_for_one, greatest_is_for_all, none_is_for_all}
use Rattle.lift_dual.proofs.laws.chains_have_one_scheduler.Goals as goal

pub returns : goal.returns
returns c =
    let corners = c.rows_at_corners.ensures in
    record { least = least_is_for_one corners.parameters corners.range; greatest = greatest_is_for_all corners.range; none = none_is_for_all }
