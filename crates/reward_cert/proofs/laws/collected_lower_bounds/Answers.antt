use Rattle.reward_cert.proofs.CollectedLower.{collected_lower_all_bounds, collected_lower_one_bounds}
use Rattle.reward_cert.proofs.laws.collected_lower_bounds.Goals as goal

pub returns : goal.returns
returns c = record {
  all = collected_lower_all_bounds c.divisors_and_multiples.ensures.multiple c.weighted_sums_follow.ensures.least c.weighted_sums_follow.ensures.rise c.rows_at_corners.ensures.numbers c.rows_inside.ensures.weights c.rows_inside.ensures.least;
  one = collected_lower_one_bounds c.divisors_and_multiples.ensures.multiple c.weighted_sums_follow.ensures.least c.weighted_sums_follow.ensures.rise c.rows_at_corners.ensures.numbers c.rows_inside.ensures.weights c.rows_inside.ensures.least;
}
