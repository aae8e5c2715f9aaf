-- One corner of a choice with a reward, in numbers.
use Rattle.std.specs.Prelude.{◌≡◌, ◌⊎◌, ◌^◌, ℤ, pos, ◌+ℤ◌, ◌-ℤ◌, ◌*ℤ◌, ◌≤ℤ◌, ◌<ℤ◌}
use Rattle.corner_lift.specs.Case.{engine_limit, most_precision}
use Rattle.corner_lift.specs.Quotient.{IsRoundedUp}

-- A number and a reward up to `top`, the sum and the whole at a corner, and how much of it is the self loop's. What comes from elsewhere is not below 0, and `top` times the whole is below the engine's limit.
pub record CanLeave (number reward top sum whole own : ℤ) : Type 0 where
  pub number_in : (pos 0 ≤ℤ number) × (number ≤ℤ top)
  pub reward_in : (pos 0 ≤ℤ reward) × (reward ≤ℤ top)
  pub top_in : top ≤ℤ pos (2 ^ most_precision)
  pub whole_in : pos 1 ≤ℤ whole
  pub own_in : (pos 0 ≤ℤ own) × (own ≤ℤ whole)
  pub sum_in : ((number *ℤ own) ≤ℤ sum) × (sum ≤ℤ (top *ℤ whole))
  pub room : (top *ℤ whole) <ℤ pos engine_limit

-- what comes from elsewhere, with the reward
abbrev pub rest_of : ℤ → ℤ → ℤ → ℤ → ℤ → ℤ
rest_of number reward sum whole own = sum +ℤ reward *ℤ whole -ℤ number *ℤ own

-- what is left of a number without the reward, but at least 0
pub record IsBefore (number reward left : ℤ) : Type 0 where
  pub least : pos 0 ≤ℤ left
  pub most : left ≤ℤ number
  pub enough : number ≤ℤ (left +ℤ reward)
  pub tight : (left ≡ pos 0) ⊎ (left +ℤ reward ≡ number)

-- a number with the reward, cut off at `top`
pub record IsAfter (left reward top v : ℤ) : Type 0 where
  pub most : v ≤ℤ top
  pub within : v ≤ℤ (left +ℤ reward)
  pub all : v <ℤ top → v ≡ left +ℤ reward
  pub cut : (v ≡ top) ⊎ (v ≡ left +ℤ reward)

-- A number up to `top`, and a rest and what leaves the state, both not below 0. `top` times what leaves is below the engine's limit.
pub record CanPay (number top rest left : ℤ) : Type 0 where
  pub number_in : (pos 0 ≤ℤ number) × (number ≤ℤ top)
  pub top_in : top ≤ℤ pos (2 ^ most_precision)
  pub rest_in : pos 0 ≤ℤ rest
  pub left_in : pos 0 ≤ℤ left
  pub room : (top *ℤ left) <ℤ pos engine_limit

-- the number, where it is enough; else `top`, where the rest is above `top` times what leaves the state; else the rest over what leaves, rounded up
pub record IsLeastOver (number top rest left v : ℤ) : Type 0 where
  pub still : rest ≤ℤ (number *ℤ left) → v ≡ number
  pub capped : (number *ℤ left) <ℤ rest → (top *ℤ left) <ℤ rest → v ≡ top
  pub solved : (number *ℤ left) <ℤ rest → rest ≤ℤ (top *ℤ left) → IsRoundedUp rest left v × (pos 1 ≤ℤ left)
