use Rattle.lift_dual.proofs.Avoiding.{stages_are_least, rest_is_avoiding, rest_is_greatest}
use Rattle.lift_dual.proofs.laws.rest_is_greatest.Goals as goal

pub returns : goal.returns
returns c =
    let corners = c.rows_at_corners.ensures in
    record { stages = stages_are_least corners.rise; avoiding = rest_is_avoiding corners.numbers corners.parameters corners.range corners.rise c.corners_bound_weights.ensures.sum; rest = rest_is_greatest corners.numbers corners.parameters corners.range corners.rise c.corners_bound_weights.ensures.sum }
