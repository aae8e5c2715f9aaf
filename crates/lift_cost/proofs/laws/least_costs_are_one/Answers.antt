use Rattle.lift_cost.proofs.Trees.{leaf_is_one}
use Rattle.lift_cost.proofs.laws.least_costs_are_one.Goals as goal

pub returns : goal.returns
returns c = leaf_is_one
