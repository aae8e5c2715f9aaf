-- What a scheduler pays before it reaches the goal, within a number of steps: in each state that is no goal state a charge. Without fractions.
use Rattle.std.specs.Prelude.{ℕ, zero, suc, ◌*◌, ◌/◌, List, fold, ℤ, pos, ◌+ℤ◌, ◌*ℤ◌, All, if◌then◌else◌}
use Rattle.lift_frac.specs.Gcd.{lcm}
use Rattle.lift_costs.specs.Costs.{CostData, IsCost, cost_of}
use Rattle.lift_model.specs.Process.{Process, power}
use Rattle.lift_model.specs.Plan.{Plan}
use Rattle.lift_model.specs.Reach.{plan_reach}

-- every cost is one
abbrev pub AreCosts : List CostData → Type 0
AreCosts costs = All IsCost costs

-- the common denominator: the least common multiple of all denominators
abbrev pub common : List CostData → ℕ
common costs = fold (λ q c. lcm q c.den) 1 costs

-- the cost of a state times the common denominator, a whole number
abbrev pub charge : List CostData → ℕ → ℕ
charge costs s = let c = cost_of costs s in c.num * (common costs / c.den)

-- The cost that is expected from the state within n steps is this number over the n-th power of q times the total, where a visit of a state costs its charge.
abbrev pub expected_cost : Process → (ℕ → ℕ) → ℕ → ℕ → ℕ → Plan → ℤ
expected_cost process charge q zero s p = pos 0
expected_cost process charge q (suc n) s p =
    if process.goal s then pos 0 else (pos (charge s) *ℤ power (pos q *ℤ process.total) (suc n) +ℤ plan_reach (expected_cost process charge q n) (process.choices s) p)
