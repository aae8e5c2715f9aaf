use Rattle.property_tree.proofs.Single.{range_leaf_is_one}
use Rattle.property_tree.proofs.laws.range_leaves_are_one.Goals as goal

pub returns : goal.returns
returns c = range_leaf_is_one c.leaves_are_one.ensures c.lower_precisions_are_cases.ensures
