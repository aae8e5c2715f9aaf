-- Ranges of precisions.
use Rattle.std.specs.Prelude.{ℕ, ◌≤◌}

-- u is a precision of the range from v to w
abbrev pub Between : ℕ → ℕ → ℕ → Type 0
Between v w u = (v ≤ u) × (u ≤ w)
