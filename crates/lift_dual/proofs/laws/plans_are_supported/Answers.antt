use Rattle.lift_dual.proofs.Planning.{supported_plans_reach}
use Rattle.lift_dual.proofs.laws.plans_are_supported.Goals as goal

pub returns : goal.returns
returns c = supported_plans_reach c.tosses_are_bounded.ensures c.weighted_sums_follow.ensures.rise
