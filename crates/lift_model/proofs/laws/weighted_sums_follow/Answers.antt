use Rattle.lift_model.proofs.Sums.{weighted_sum-least, weighted_sum-mono}
use Rattle.lift_model.proofs.laws.weighted_sums_follow.Goals as goal

pub returns : goal.returns
returns c = record { least = weighted_sum-least; rise = weighted_sum-mono }
