-- What each choice of a state costs: what a visit of the state costs (its state reward) and what the action costs (its action reward) together.
use Rattle.std.specs.Prelude.{ℕ, ◌+◌, ◌*◌, ◌/◌, ◌≤◌, List, [], ◌∷◌, fold, map, slice_index_or, All}
use Rattle.lift_frac.specs.Gcd.{gcd, lcm}
use Rattle.lift_costs.specs.Costs.{CostData, IsCost, cost_of}

-- for each state the costs of its choices, and the cap: the cost that 2 ^ w parts stand for
pub record RewardData : Type 0 where
  pub costs : List (List CostData)
  pub cap : ℕ

-- each is a cost, and the cap is some
pub record AreRewards (r : RewardData) : Type 0 where
  pub costs : All (All IsCost) r.costs
  pub cap : 1 ≤ r.cap

-- the cost of a state's choice; none past the end
abbrev pub choice_cost : List (List CostData) → ℕ → ℕ → CostData
choice_cost costs s a = cost_of (slice_index_or costs s []) a

-- the common denominator: the least common multiple of all denominators
abbrev pub common : List (List CostData) → ℕ
common costs = fold (λ q row. fold (λ m c. lcm m c.den) q row) 1 costs

-- the cost of a state's choice times the common denominator, a whole number
abbrev pub charge : List (List CostData) → ℕ → ℕ → ℕ
charge costs s a = let c = choice_cost costs s a in c.num * (common costs / c.den)

-- ---- of states and of actions

-- the sum of two costs, in lowest terms
abbrev pub sum_of : CostData → CostData → CostData
sum_of c d =
    let num = c.num * d.den + d.num * c.den in
    let den = c.den * d.den in
    let divisor = gcd num den in
    record { num = num / divisor; den = den / divisor }

-- the costs of choices, of the costs of states and, for each state, those of its actions
abbrev pub with_actions : List CostData → List (List CostData) → List (List CostData)
with_actions (c ∷ states) (row ∷ actions) = map (sum_of c) row ∷ with_actions states actions
with_actions _ _ = []
