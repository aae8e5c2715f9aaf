use Rattle.property_tree.specs.Leaves.{DecidesOver, IsOpenOver}
use Rattle.property_tree.proofs.Single.{each_range_one, tree_is_one}
use Rattle.property_tree.proofs.laws.range_trees_are_one.Goals as goal

pub returns : goal.returns
returns c k v op bound tree other is positive p q =
    tree_is_one (DecidesOver k v op bound) (IsOpenOver k v op bound) c.rectangles_at_depths.ensures.halves c.split_axes_are_one.ensures k is (each_range_one c.range_leaves_are_one.ensures k v op bound is positive) 0 k.root tree other (c.rectangles_at_depths.ensures.root k is) p q
