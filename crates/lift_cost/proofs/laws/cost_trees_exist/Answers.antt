use Rattle.lift_cost.proofs.Existing.{cost_trees_exist}
use Rattle.lift_cost.proofs.laws.cost_trees_exist.Goals as goal

pub returns : goal.returns
returns c =
    let depths = c.rectangles_at_depths.ensures in
    cost_trees_exist c.least_costs_exist.ensures c.cost_certificates_decide.ensures.refutes c.live_parameters_have_spans.ensures depths.root depths.halves
