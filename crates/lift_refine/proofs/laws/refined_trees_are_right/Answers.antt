use Rattle.lift_refine.specs.Laws.{RefinedTreesAreRight}
use Rattle.lift_refine.proofs.Trees.{AreHalved, are_halved, refined_trees_are_right, refined_right_trees}
use Rattle.lift_refine.proofs.laws.refined_trees_are_right.Goals as goal

pub returns : goal.returns
returns c =
    let rectangles = c.rectangles_stay.ensures in
    let stay = c.halves_stay.ensures in
    let depths = c.rectangles_at_depths.ensures in
    let down : AreHalved = are_halved depths.halves c.live_parameters_have_spans.ensures c.halves_stay_on_grid.ensures.halvable stay.halves in
    let right : RefinedTreesAreRight = refined_trees_are_right down stay.axes rectangles.is_open rectangles.accepted rectangles.rejected in
    record { over_rectangle = right; over_root = refined_right_trees depths.root right }
