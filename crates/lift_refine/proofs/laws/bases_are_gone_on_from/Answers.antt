use Rattle.lift_refine.proofs.Trees.{are_halved, certified_trees_are_bases, right_trees_are_certified, bases_with_right_trees}
use Rattle.lift_refine.proofs.laws.bases_are_gone_on_from.Goals as goal

pub returns : goal.returns
returns c =
    let certificates = c.certificates_stay.ensures in
    let stay = c.halves_stay.ensures in
    let down = are_halved c.rectangles_at_depths.ensures.halves c.live_parameters_have_spans.ensures c.halves_stay_on_grid.ensures.halvable stay.halves in
    record {
      bases = certified_trees_are_bases down stay.axes certificates.accepting certificates.rejecting;
      right = right_trees_are_certified;
      refined = bases_with_right_trees c.refined_bases_are_certified.ensures;
    }
