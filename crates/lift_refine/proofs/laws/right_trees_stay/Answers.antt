use Rattle.lift_refine.proofs.Trees.{are_halved, right_trees_stay}
use Rattle.lift_refine.proofs.laws.right_trees_stay.Goals as goal

pub returns : goal.returns
returns c =
    let rectangles = c.rectangles_stay.ensures in
    let stay = c.halves_stay.ensures in
    right_trees_stay
    (are_halved c.rectangles_at_depths.ensures.halves c.live_parameters_have_spans.ensures c.halves_stay_on_grid.ensures.halvable stay.halves)
    stay.axes rectangles.is_open rectangles.accepted rectangles.rejected
