-- An order of states.
use Rattle.std.specs.Prelude.{◌≡◌, ℕ, ◌<◌, List, length, slice_index_or}

-- each of so many states stands at its position, and no other one does
pub record IsOrder (states positions : List ℕ) (n : ℕ) : Type 0 where
  pub counts : (length states ≡ n) × (length positions ≡ n)
  pub inside : (s : ℕ) → s < n → slice_index_or positions s 0 < n
  pub found : (s : ℕ) → s < n → slice_index_or states (slice_index_or positions s 0) 0 ≡ s
  pub back : (i : ℕ) → i < n → slice_index_or positions (slice_index_or states i 0) 0 ≡ i
