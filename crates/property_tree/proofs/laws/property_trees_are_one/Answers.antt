use Rattle.property_tree.specs.Leaves.{DecidesFor, IsOpenFor}
use Rattle.property_tree.proofs.Single.{each_one, tree_is_one}
use Rattle.property_tree.proofs.laws.property_trees_are_one.Goals as goal

pub returns : goal.returns
returns c k op bound tree other is p q =
    tree_is_one (DecidesFor k op bound) (IsOpenFor k op bound) c.rectangles_at_depths.ensures.halves c.split_axes_are_one.ensures k is (each_one c.leaves_are_one.ensures k op bound is) 0 k.root tree other (c.rectangles_at_depths.ensures.root k is) p q
