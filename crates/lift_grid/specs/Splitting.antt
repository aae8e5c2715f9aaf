-- The split rule, which is our own profile's: which parameter's span is halved, and when it can be.
use Rattle.std.specs.Prelude.{◌^◌, ◌<◌, ◌≤◌, ℕ, pos, ◌+ℤ◌, ◌-ℤ◌, ◌≤ℤ◌, unsigned_abs, length, slice_index_or, IsBitSet, Option, Some, None}
use Rattle.lift_grid.specs.Rectangle.{Spans, AreSpans, IsMultiple, AreMultiples}

-- how long a parameter's span is, over the grid
abbrev pub span_length : Spans → ℕ → ℕ
span_length ss i = let s = slice_index_or ss i (pos 0, pos 0) in unsigned_abs (s.1 -ℤ s.0)

-- The axis of the split rule: of the live parameters that with the longest span, the lowest index on a tie.
pub record IsSplitAxis (live : ℕ) (ss : Spans) (i : ℕ) : Type 0 where
  pub is_live : IsBitSet live i
  pub longest : (j : ℕ) → IsBitSet live j → span_length ss j ≤ span_length ss i
  pub first : (j : ℕ) → IsBitSet live j → j < i → span_length ss j < span_length ss i

-- a parameter's span can be halved: there is one, and its ends have an even sum and differ by at least 2, so that the midpoint is a whole number between them
pub record IsHalvable (axis : ℕ) (ss : Spans) : Type 0 where
  pub some : axis < length ss
  pub even : let s = slice_index_or ss axis (pos 0, pos 0) in IsMultiple 2 (s.0 +ℤ s.1)
  pub apart : let s = slice_index_or ss axis (pos 0, pos 0) in (s.0 +ℤ pos 2) ≤ℤ s.1

-- a rectangle has so many halvings left: each of its spans can be halved so often, and what they leave too
pub record HasHalvings (n : ℕ) (ss : Spans) : Type 0 where
  pub spans : AreSpans ss
  pub multiples : AreMultiples (2 ^ n) ss

-- ---- for the contract of a private function

-- the axis of the split rule among the parameters below n
pub record IsAxisAmong (n live : ℕ) (ss : Spans) (i : ℕ) : Type 0 where
  pub below : i < n
  pub is_live : IsBitSet live i
  pub longest : (j : ℕ) → IsBitSet live j → j < n → span_length ss j ≤ span_length ss i
  pub first : (j : ℕ) → IsBitSet live j → j < i → span_length ss j < span_length ss i

-- the same, where some parameter below n is live; None where none is
abbrev pub IsAxisBelow : ℕ → ℕ → Spans → Option ℕ → Type 0
IsAxisBelow n live ss None = (j : ℕ) → IsBitSet live j → n ≤ j
IsAxisBelow n live ss (Some i) = IsAxisAmong n live ss i
