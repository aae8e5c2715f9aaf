-- What a cost certificate says of a model's schedulers. It speaks of steps, probabilities and costs alone.
use Rattle.std.specs.Prelude.{ℕ, ◌*◌, ◌≤◌, List, pos, ◌*ℤ◌, ◌≤ℤ◌}
use Rattle.lift_poly.specs.Polynomial.{Valuation}
use Rattle.lift_model.specs.Process.{power}
use Rattle.lift_model.specs.Plan.{Plan, Fits}
use Rattle.lift_model.specs.Model.{ModelData, process_at}
use Rattle.lift_costs.specs.Costs.{CostData}
use Rattle.lift_cost.specs.Expected.{common, charge, expected_cost}
use Rattle.lift_cost.specs.Certificate.{BudgetData}

-- At the valuation every scheduler, also one that tosses, pays from the initial state an expected cost of at most the budget before it reaches the goal, within n steps for every n.
abbrev pub IsPaidAt : ModelData → Valuation → List CostData → BudgetData → Type 0
IsPaidAt m v costs budget =
    (q n : ℕ) (p : Plan) → 1 ≤ q → Fits (process_at m v) q n m.init p →
    (expected_cost (process_at m v) (charge costs) q n m.init p *ℤ pos budget.den) ≤ℤ (pos (budget.num * common costs) *ℤ power (pos q *ℤ (process_at m v).total) n)
