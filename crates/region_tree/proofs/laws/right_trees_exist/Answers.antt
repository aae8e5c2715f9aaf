use Rattle.region_tree.proofs.Trees.{right_tree}
use Rattle.region_tree.proofs.laws.right_trees_exist.Goals as goal

pub returns : goal.returns
returns c k v bound is positive =
    let exist = c.certificates_exist.ensures in
    right_tree exist.least exist.greatest exist.axis c.lower_precisions_are_cases.ensures c.ranks_fit.ensures.any c.rectangles_at_depths.ensures.halves k v is positive bound (c.rectangles_at_depths.ensures.root k is)
