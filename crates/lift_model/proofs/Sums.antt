-- Weighted sums over the moves of a choice.
use Rattle.std.proofs.Common.{ℕ, List, [], ◌∷◌, ℤ, pos, ◌≤ℤ◌, arith}
use Rattle.lift_poly.proofs.Ring.{linear, mul-le, mul-nonneg}
use Rattle.lift_model.specs.Process.{Move, weighted_sum}
use Rattle.lift_model.specs.Laws.{AreNonNegative}

pub weighted_sum-least : (number : ℕ → ℤ) (moves : List Move) → ((s : ℕ) → pos 0 ≤ℤ number s) → AreNonNegative moves → pos 0 ≤ℤ weighted_sum number moves
weighted_sum-least number [] least weights = omega (arith, linear)
weighted_sum-least number (move ∷ moves) least weights = omega (arith, linear, mul-nonneg move.1 (number move.0) weights.0 (least move.0), weighted_sum-least number moves least weights.1)

-- greater numbers have a greater sum
pub weighted_sum-mono : (x y : ℕ → ℤ) (moves : List Move) → ((s : ℕ) → x s ≤ℤ y s) → AreNonNegative moves → weighted_sum x moves ≤ℤ weighted_sum y moves
weighted_sum-mono x y [] le weights = omega (arith, linear)
weighted_sum-mono x y (move ∷ moves) le weights = omega (arith, linear, mul-le move.1 (x move.0) (y move.0) weights.0 (le move.0), weighted_sum-mono x y moves le weights.1)
