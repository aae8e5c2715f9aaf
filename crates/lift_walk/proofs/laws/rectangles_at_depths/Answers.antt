use Rattle.lift_walk.proofs.Depths.{root_at_depth, halves_at_depth}
use Rattle.lift_walk.proofs.laws.rectangles_at_depths.Goals as goal

pub returns-clause-root : goal.returns-clause-root
returns-clause-root c k is = root_at_depth c.rows_inside.ensures.root k is

pub returns-clause-halves : goal.returns-clause-halves
returns-clause-halves c k spans depth axis is at more axis_is =
    halves_at_depth c.halves_are_inside.ensures c.halves_stay_on_grid.ensures.halves c.live_parameters_have_spans.ensures k spans depth axis is at more axis_is
