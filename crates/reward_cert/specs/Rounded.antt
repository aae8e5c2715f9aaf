-- The reward of a step as a number: what a choice costs, over the cap, in parts of 2 ^ w of it, rounded to either side.
use Rattle.std.specs.Prelude.{ℕ, ◌*◌, ◌/◌, ◌^◌, ◌≤◌}
use Rattle.std.specs.Int.{div_ceil}
use Rattle.reward_cert.specs.Charges.{RewardData, choice_cost}

-- rounded up, for bounds from above
abbrev pub reward_up : ℕ → RewardData → ℕ → ℕ → ℕ
reward_up w r s a = let c = choice_cost r.costs s a in div_ceil (c.num * 2 ^ w) (c.den * r.cap)

-- rounded down, for bounds from below
abbrev pub reward_down : ℕ → RewardData → ℕ → ℕ → ℕ
reward_down w r s a = let c = choice_cost r.costs s a in c.num * 2 ^ w / (c.den * r.cap)

-- The choice pays: it costs at least one part. What costs less pays nothing from below.
abbrev pub IsPaying : ℕ → RewardData → ℕ → ℕ → Type 0
IsPaying w r s a = 1 ≤ reward_down w r s a
