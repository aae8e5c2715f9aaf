-- A vector that every choice supports, with ranks to which every choice leads: so each scheduler, also one that tosses, reaches the goal with at least what the vector says, but for what it may leave undecided.
use Rattle.std.specs.Prelude.{◌≡◌, ℕ, ◌<◌, ◌≤◌, false, List, ℤ, pos, ◌*ℤ◌, ◌≤ℤ◌, nat_lt, if◌then◌else◌}
use Rattle.std.specs.List.{AllByRecursion}
use Rattle.lift_model.specs.Process.{Process, Move, weighted_sum}
use Rattle.lift_model.specs.Laws.{AreNonNegative}

-- 1 for the states whose rank is below r, and 0 for the others
abbrev pub ranked_under : (ℕ → ℕ) → ℕ → ℕ → ℤ
ranked_under rank r s = if nat_lt (rank s) r then pos 1 else pos 0

-- a choice supports a state: its weights sum to the total, its weighted mean is at least the state's number, and the weight into lower ranks, times the rate, is at least the total
pub record Supports (total : ℤ) (y : ℕ → ℤ) (rank : ℕ → ℕ) (rate : ℤ) (s : ℕ) (moves : List Move) : Type 0 where
  pub sum : weighted_sum (λ t. pos 1) moves ≤ℤ total
  pub mean : (y s *ℤ total) ≤ℤ weighted_sum y moves
  pub lead : total ≤ℤ (weighted_sum (ranked_under rank (rank s)) moves *ℤ rate)

-- y, from 0 to top, is supported by every choice of a state of rank 1 to k that is no goal state, and is 0 where the rank is above k
pub record IsSupportedByAll (process : Process) (top : ℤ) (y : ℕ → ℤ) (rank : ℕ → ℕ) (rate : ℤ) (k : ℕ) : Type 0 where
  pub total : pos 0 ≤ℤ process.total
  pub top_least : pos 0 ≤ℤ top
  pub rate_least : pos 1 ≤ℤ rate
  pub most : (s : ℕ) → y s ≤ℤ top
  pub weights : (s : ℕ) → AllByRecursion AreNonNegative (process.choices s)
  pub apart : (s : ℕ) → process.goal s ≡ false → k < rank s → y s ≤ℤ pos 0
  pub later : (s : ℕ) → process.goal s ≡ false → 1 ≤ rank s
  pub supports : (s : ℕ) → process.goal s ≡ false → rank s ≤ k → AllByRecursion (Supports process.total y rank rate s) (process.choices s)
