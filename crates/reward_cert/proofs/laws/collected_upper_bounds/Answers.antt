use Rattle.reward_cert.proofs.CollectedUpper.{collected_upper_all_bounds, collected_upper_one_bounds}
use Rattle.reward_cert.proofs.laws.collected_upper_bounds.Goals as goal

pub returns : goal.returns
returns c = record {
  all = collected_upper_all_bounds c.divisors_and_multiples.ensures.multiple c.rows_inside.ensures.weights c.rows_inside.ensures.sums c.rows_inside.ensures.most c.rows_inside.ensures.least;
  one = collected_upper_one_bounds c.divisors_and_multiples.ensures.multiple c.rows_inside.ensures.weights c.rows_inside.ensures.sums c.rows_inside.ensures.most c.rows_inside.ensures.least;
}
