-- Numbers of vectors in tests, and lanes.
use Rattle.std.specs.Prelude.{◌≡◌, ℕ, ◌*◌, List, ℤ, pos, ◌≤ℤ◌, length}

-- a number from 0 to 16, which stands for 1 at precision 4
abbrev pub IsInLane : ℤ → Type 0
IsInLane n = (pos 0 ≤ℤ n) × (n ≤ℤ pos 16)

-- two numbers, a rank, a chosen row and two places of work for each state, and a place for each row
pub record AreLanes (states rows : ℕ) (numbers_at others_at : List ℤ) (ranks_at choices_at work_at allowed_at : List ℕ) : Type 0 where
  pub numbers : length numbers_at ≡ states
  pub others : length others_at ≡ states
  pub ranks : length ranks_at ≡ states
  pub picks : length choices_at ≡ states
  pub work : length work_at ≡ 2 * states
  pub allowed : length allowed_at ≡ rows
