use Rattle.region_tree.proofs.Tiling.{halves_spans}
use Rattle.region_tree.proofs.laws.right_trees_tile.Goals as goal

pub returns : goal.returns
returns c k v bound tree is h =
    c.trees_tile.ensures.leaves k.d k.root 0 tree (halves_spans c.rectangles_at_depths.ensures.halves c.live_parameters_have_spans.ensures k v is bound 0 k.root tree (c.rectangles_at_depths.ensures.root k is) h)
