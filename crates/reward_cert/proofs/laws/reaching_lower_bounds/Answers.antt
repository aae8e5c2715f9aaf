use Rattle.reward_cert.proofs.ReachingLower.{reaching_lower_all_bounds, reaching_lower_one_bounds}
use Rattle.reward_cert.proofs.laws.reaching_lower_bounds.Goals as goal

pub returns : goal.returns
returns c = record {
  all = reaching_lower_all_bounds c.divisors_and_multiples.ensures.multiple c.rows_at_corners.ensures.numbers c.rows_inside.ensures.weights c.rows_inside.ensures.sums c.rows_inside.ensures.least;
  one = reaching_lower_one_bounds c.divisors_and_multiples.ensures.multiple c.rows_at_corners.ensures.numbers c.rows_inside.ensures.weights c.rows_inside.ensures.sums c.rows_inside.ensures.least;
}
