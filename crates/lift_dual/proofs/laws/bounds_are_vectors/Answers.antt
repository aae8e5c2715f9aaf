use Rattle.lift_dual.proofs.Bounds.{bounds_are_avoiding, least_bound_is_avoiding, upper_one_is_bound, bound_is_satisfied, least_bound_is_upper_one}
use Rattle.lift_dual.proofs.laws.bounds_are_vectors.Goals as goal

pub returns : goal.returns
returns c =
    let parameters = c.rows_at_corners.ensures.parameters in
    record {
      avoiding = bounds_are_avoiding parameters;
      least_avoiding = least_bound_is_avoiding parameters;
      one = upper_one_is_bound parameters;
      satisfied = bound_is_satisfied parameters;
      least_one = least_bound_is_upper_one parameters;
    }
