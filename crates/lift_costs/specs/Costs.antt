-- What a visit of each state costs.
use Rattle.std.specs.Prelude.{◌≡◌, ℕ, ◌<◌, ◌≤◌, List, unsigned_abs, slice_index_or}
use Rattle.lift_frac.specs.Gcd.{gcd}
use Rattle.lift_frac.specs.Limits.{size_limit}
use Rattle.lift_frac.specs.Ratio.{Ratio}

-- a cost: one number over another
pub record CostData : Type 0 where
  pub num : ℕ
  pub den : ℕ

-- what every cost is: in lowest terms, with a denominator of at least 1, and both parts below the limit
pub record IsCost (c : CostData) : Type 0 where
  pub lowest : gcd c.num c.den ≡ 1
  pub positive : 1 ≤ c.den
  pub num : c.num < size_limit
  pub den : c.den < size_limit

-- a ratio that isn't below 0, as a cost
abbrev pub cost : Ratio → CostData
cost q = record { num = unsigned_abs q.num; den = unsigned_abs q.den }

-- no cost; it stands too for the cost of a state past the end
abbrev pub no_cost : CostData
no_cost = record { num = 0; den = 1 }

-- the cost of a state
abbrev pub cost_of : List CostData → ℕ → CostData
cost_of costs s = slice_index_or costs s no_cost
