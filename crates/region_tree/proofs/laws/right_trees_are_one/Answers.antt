use Rattle.region_tree.proofs.Unique.{tree_is_one}
use Rattle.region_tree.proofs.laws.right_trees_are_one.Goals as goal

pub returns : goal.returns
returns c k v bound tree other is positive h g =
    tree_is_one c.lower_precisions_are_cases.ensures c.certificates_are_one.ensures.least c.certificates_are_one.ensures.greatest c.certificates_are_one.ensures.axis c.rectangles_at_depths.ensures.halves
    k v is positive bound 0 k.root tree other (c.rectangles_at_depths.ensures.root k is) h g
