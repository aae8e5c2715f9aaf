-- Cases of two numbers that are told apart.
use Rattle.std.proofs.Common.{◌≡◌, ◌≢◌, ℕ, ◌<◌, ◌≤◌, arith, ◌⊎◌}

pub side : (i j : ℕ) → (i < j) ⊎ (j ≤ i)
side i j = grind arith

pub same_or_not : (i j : ℕ) → (i ≡ j) ⊎ (i ≢ j)
same_or_not i j = grind arith
