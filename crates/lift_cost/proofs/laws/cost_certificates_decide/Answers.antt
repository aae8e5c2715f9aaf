use Rattle.lift_cost.proofs.Paying.{certificates_bound_costs, least_priced_refutes}
use Rattle.lift_cost.proofs.laws.cost_certificates_decide.Goals as goal

pub returns : goal.returns
returns c = record {
  bounds = certificates_bound_costs c.tosses_are_bounded.ensures c.divisors_and_multiples.ensures.multiple c.rows_at_corners.ensures.numbers c.rows_inside.ensures.weights c.rows_inside.ensures.most;
  refutes = least_priced_refutes;
}
