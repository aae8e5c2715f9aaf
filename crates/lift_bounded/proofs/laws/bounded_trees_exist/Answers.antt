use Rattle.lift_bounded.proofs.Trees.{bounded_trees_exist}
use Rattle.lift_bounded.proofs.laws.bounded_trees_exist.Goals as goal

pub returns : goal.returns
returns c =
    let made = c.steps_make_certificates.ensures in
    let exist = c.certificates_by_steps_exist.ensures in
    let depths = c.rectangles_at_depths.ensures in
    bounded_trees_exist exist.least exist.greatest made.none_accept made.none_reject c.live_parameters_have_spans.ensures depths.root depths.halves
