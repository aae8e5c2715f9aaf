-- What a visit of a state costs, as a number.
use Rattle.std.specs.Prelude.{ℕ, ◌*◌, ◌^◌, List}
use Rattle.std.specs.Int.{div_ceil}
use Rattle.lift_costs.specs.Costs.{CostData, cost_of}

-- the reward of a state: its cost over the cap, as a number over 2 ^ w, rounded up
abbrev pub reward : ℕ → List CostData → ℕ → ℕ → ℕ
reward w costs cap s = let c = cost_of costs s in div_ceil (c.num * 2 ^ w) (c.den * cap)
