use Rattle.lift_dual.proofs.Saying.{lower_all_reaches, upper_one_bounds}
use Rattle.lift_dual.proofs.BothSides.{lower_all_is_below_upper_one}
use Rattle.lift_dual.proofs.laws.all_and_one.Goals as goal

pub returns : goal.returns
returns c =
    let follow = c.weighted_sums_follow.ensures in
    let corners = c.rows_at_corners.ensures in
    let rows = c.rows_inside.ensures in
    record {
      all = lower_all_reaches corners.numbers rows.weights rows.sums rows.least c.plans_are_supported.ensures;
      one = upper_one_bounds follow.rise corners.numbers rows.weights rows.most;
      below = lower_all_is_below_upper_one follow.rise corners.numbers rows.weights rows.sums rows.most rows.least c.plans_are_supported.ensures;
    }
