use Rattle.reward_cert.proofs.ReachingUpper.{reaching_upper_all_reaches, reaching_upper_one_reaches}
use Rattle.reward_cert.proofs.laws.reaching_upper_bounds.Goals as goal

pub returns : goal.returns
returns c = record {
  all = reaching_upper_all_reaches c.weighted_sums_follow.ensures.least c.weighted_sums_follow.ensures.rise c.rows_inside.ensures.weights c.rows_inside.ensures.least;
  one = reaching_upper_one_reaches c.weighted_sums_follow.ensures.least c.weighted_sums_follow.ensures.rise c.rows_inside.ensures.weights c.rows_inside.ensures.least;
}
