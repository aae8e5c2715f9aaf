-- Quotients that are rounded to a whole number.
use Rattle.std.specs.Prelude.{◌≡◌, ◌⊎◌, ℤ, pos, ◌+ℤ◌, ◌-ℤ◌, ◌*ℤ◌, ◌≤ℤ◌, ◌<ℤ◌}

-- the quotient of a sum by a whole, rounded up to a whole number
abbrev pub IsRoundedUp : ℤ → ℤ → ℤ → Type 0
IsRoundedUp sum whole q = (sum ≤ℤ (q *ℤ whole)) × (((q -ℤ pos 1) *ℤ whole) <ℤ sum)

-- the quotient, rounded down
abbrev pub IsRoundedDown : ℤ → ℤ → ℤ → Type 0
IsRoundedDown sum whole q = ((q *ℤ whole) ≤ℤ sum) × (sum <ℤ ((q +ℤ pos 1) *ℤ whole))

-- the least number from n on that times the whole is at least the sum: n, or else the quotient, rounded up
abbrev pub IsRoundedUpFrom : ℤ → ℤ → ℤ → ℤ → Type 0
IsRoundedUpFrom n sum whole v = ((v ≡ n) × (sum ≤ℤ (n *ℤ whole))) ⊎ (((n *ℤ whole) <ℤ sum) × IsRoundedUp sum whole v)

-- it holds of a sum and a whole, and of both times any number from 1 on: what they were divided by before makes no difference
abbrev pub AtEachScale : (ℤ → ℤ → Type 0) → ℤ → ℤ → Type 0
AtEachScale P sum whole = (scale : ℤ) → pos 1 ≤ℤ scale → P (sum *ℤ scale) (whole *ℤ scale)
