use Rattle.lift_walk.proofs.Ends.{root_ends}
use Rattle.lift_walk.proofs.Stepping.{at_root, go_down}
use Rattle.lift_walk.proofs.laws.sides_go_down.Goals as goal

pub returns-clause-ends : goal.returns-clause-ends
returns-clause-ends c k is = root_ends k is

pub returns-clause-root : goal.returns-clause-root
returns-clause-root c k sides is made = at_root c.rectangles_at_depths.ensures.root c.rows_are_rectangles.ensures.spans c.rows_are_rectangles.ensures.sides k sides is made

pub returns-clause-down : goal.returns-clause-down
returns-clause-down c k sides depth axis lower is at more axis_is =
    go_down c.rectangles_at_depths.ensures.halves c.halves_stay_on_grid.ensures.count c.halves_stay_on_grid.ensures.halvable c.live_parameters_have_spans.ensures
    c.rows_are_rectangles.ensures.spans c.rows_are_rectangles.ensures.sides c.lanes_stand_alone.ensures.undone k sides depth axis lower is at more axis_is
