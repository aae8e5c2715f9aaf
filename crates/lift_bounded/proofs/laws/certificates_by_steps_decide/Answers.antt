use Rattle.lift_bounded.proofs.Above.{accepting_bounds_within}
use Rattle.lift_bounded.proofs.Below.{rejecting_reaches_within}
use Rattle.lift_bounded.proofs.laws.certificates_by_steps_decide.Goals as goal

pub returns : goal.returns
returns c = record {
  accepting = accepting_bounds_within c.tosses_are_bounded.ensures c.rows_inside.ensures.weights c.rows_inside.ensures.most;
  rejecting = rejecting_reaches_within c.weighted_sums_follow.ensures.rise c.rows_inside.ensures.weights c.rows_inside.ensures.least;
}
