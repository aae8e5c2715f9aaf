use Rattle.cert_check.proofs.Placed.{root_placed, halves_placed}
use Rattle.cert_check.proofs.laws.rectangles_are_placed.Goals as goal

pub returns : goal.returns
returns c =
    let grid = c.halves_stay_on_grid.ensures in
    record { root = root_placed c.rows_inside.ensures.root; halves = halves_placed c.halves_are_inside.ensures grid.halves grid.halvable c.live_parameters_have_spans.ensures }
