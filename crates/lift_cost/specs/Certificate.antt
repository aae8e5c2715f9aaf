-- Cost certificates of a rectangle of a case: for each state a number over 2 ^ w, where 2 ^ w stands for a cost, the cap. It bounds from above what any scheduler pays before the goal.
use Rattle.std.specs.Prelude.{ℕ, ◌*◌, ◌^◌, List, ℤ, pos, ◌*ℤ◌, ◌≤ℤ◌}
use Rattle.lift_grid.specs.Rectangle.{Spans}
use Rattle.lift_costs.specs.Costs.{CostData}
use Rattle.corner_lift.specs.Case.{CaseData, number}
use Rattle.float_guess.specs.Reward.{reward}
use Rattle.rounded_iter.specs.Priced.{IsPriced}

-- the cost of a state over the cap, over 2 ^ w, rounded up
abbrev pub price_over : ℕ → List CostData → ℕ → ℕ → ℤ
price_over w costs cap s = pos (reward w costs cap s)

-- a budget, as its two parts
pub record BudgetData : Type 0 where
  pub num : ℕ
  pub den : ℕ

-- a number over 2 ^ w, times the cap, is at most the budget
abbrev pub IsAffordable : BudgetData → ℕ → ℕ → ℤ → Type 0
IsAffordable budget cap w n = (n *ℤ pos (cap * budget.den)) ≤ℤ (pos budget.num *ℤ pos (2 ^ w))

-- a cost certificate: a priced vector whose number of the initial state is within the budget
pub record IsCostCertificate (k : CaseData) (spans : Spans) (costs : List CostData) (cap : ℕ) (budget : BudgetData) (z : List ℤ) : Type 0 where
  pub priced : IsPriced k spans (price_over k.w costs cap) z
  pub limit : IsAffordable budget cap k.w (number z k.model.init)
