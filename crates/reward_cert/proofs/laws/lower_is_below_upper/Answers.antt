use Rattle.reward_cert.proofs.Apart.{collected_lower_one_is_below, collected_lower_all_is_below, reaching_lower_one_is_below, reaching_lower_all_is_below}
use Rattle.reward_cert.proofs.laws.lower_is_below_upper.Goals as goal

pub returns : goal.returns
returns c =
    let multiple = c.divisors_and_multiples.ensures.multiple in
    let at_least = c.divisors_and_multiples.ensures.at_least in
    let nonnegative = c.weighted_sums_follow.ensures.least in
    let rise = c.weighted_sums_follow.ensures.rise in
    let numbers = c.rows_at_corners.ensures.numbers in
    let inside = c.rows_inside.ensures in
    record {
      collected_one = collected_lower_one_is_below multiple at_least nonnegative rise numbers inside.weights inside.sums inside.most inside.least;
      collected_all = collected_lower_all_is_below multiple at_least nonnegative rise numbers inside.weights inside.sums inside.most inside.least;
      reaching_one = reaching_lower_one_is_below multiple at_least nonnegative rise numbers inside.weights inside.sums inside.most inside.least;
      reaching_all = reaching_lower_all_is_below multiple at_least nonnegative rise numbers inside.weights inside.sums inside.most inside.least;
    }
