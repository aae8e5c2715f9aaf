use Rattle.lift_cost.proofs.Trees.{tree_is_one}
use Rattle.lift_cost.proofs.laws.cost_trees_are_one.Goals as goal

pub returns : goal.returns
returns c k a tree other p q = tree_is_one k a c.split_axes_are_one.ensures 0 k.root tree other p q
