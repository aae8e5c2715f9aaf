-- What weighted sums over the moves of a choice keep, for who reasons about them.
use Rattle.std.specs.Prelude.{ℕ, List, ℤ, pos, ◌≤ℤ◌}
use Rattle.std.specs.List.{AllByRecursion}
use Rattle.lift_model.specs.Process.{Move, weighted_sum}

-- no move's weight is below 0
abbrev pub AreNonNegative : List Move → Type 0
AreNonNegative moves = AllByRecursion (λ move. pos 0 ≤ℤ move.1) moves

-- where no weight and no number is below 0, no weighted sum is
abbrev pub WeightedSumsAreNotNegative : Type 0
WeightedSumsAreNotNegative = (number : ℕ → ℤ) (moves : List Move) → ((s : ℕ) → pos 0 ≤ℤ number s) → AreNonNegative moves → pos 0 ≤ℤ weighted_sum number moves

-- where no weight is below 0, greater numbers have no lesser sum
abbrev pub WeightedSumsRise : Type 0
WeightedSumsRise = (x y : ℕ → ℤ) (moves : List Move) → ((s : ℕ) → x s ≤ℤ y s) → AreNonNegative moves → weighted_sum x moves ≤ℤ weighted_sum y moves
