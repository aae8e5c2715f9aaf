-- Trees of rectangles: how a rectangle is halved, which leaves a tree has, and when rectangles tile a root.
use Rattle.std.specs.Prelude.{◌+◌, ◌/◌, ◌<◌, ⊤, ℕ, zero, suc, List, [], ◌∷◌, ◌++◌, ℤ, pos, ◌+ℤ◌, ◌-ℤ◌, ◌≤ℤ◌, ◌⊎◌, All, Any, length, unsigned_abs}
use Rattle.std.specs.List.{AllPairs}
use Rattle.lift_poly.specs.Polynomial.{Valuation}
use Rattle.lift_grid.specs.Rectangle.{Spans, AreSpans, Inside}

-- What a rejecting certificate consists of: for each state a number, the choice that it picks and its rank, and the numbers e and k, from which its rate follows.
pub record RejectData : Type 0 where
  pub numbers : List ℤ
  pub picks : List ℕ
  pub ranks : List ℕ
  pub e : ℕ
  pub k : ℕ

-- A node: a split on a parameter with the trees of the lower and the upper half; an accepting leaf with its precision u and its numbers, which are over 2^u; a rejecting leaf with its precision and its certificate; or an unknown leaf.
pub data Tree : Type 0 where
  split : ℕ → Tree → Tree → Tree
  accept : ℕ → List ℤ → Tree
  reject : ℕ → RejectData → Tree
  unknown : Tree

-- the midpoint of a span, exact where the ends have an even sum
abbrev pub middle : ℤ × ℤ → ℤ
middle s = s.0 +ℤ pos (unsigned_abs (s.1 -ℤ s.0) / 2)

-- the rectangle below the midpoint of that parameter's span
abbrev pub lower_half : ℕ → Spans → Spans
lower_half axis [] = []
lower_half zero (s ∷ ss) = (s.0, middle s) ∷ ss
lower_half (suc axis) (s ∷ ss) = s ∷ lower_half axis ss

-- the rectangle above the midpoint of that parameter's span
abbrev pub upper_half : ℕ → Spans → Spans
upper_half axis [] = []
upper_half zero (s ∷ ss) = (middle s, s.1) ∷ ss
upper_half (suc axis) (s ∷ ss) = s ∷ upper_half axis ss

-- a leaf with its rectangle, and how many splits lie above it
pub record Leaf : Type 0 where
  pub spans : Spans
  pub depth : ℕ
  pub node : Tree

-- the leaves of a tree over a rectangle at a depth, the lower half's first
abbrev pub leaves : Spans → ℕ → Tree → List Leaf
leaves ss depth (split axis lower upper) = leaves (lower_half axis ss) (depth + 1) lower ++ leaves (upper_half axis ss) (depth + 1) upper
leaves ss depth (accept u x) = record { spans = ss; depth = depth; node = accept u x } ∷ []
leaves ss depth (reject u r) = record { spans = ss; depth = depth; node = reject u r } ∷ []
leaves ss depth unknown = record { spans = ss; depth = depth; node = unknown } ∷ []

-- each split of a tree over a rectangle halves a span of it
abbrev pub HalvesSpans : Spans → Tree → Type 0
HalvesSpans ss (split axis lower upper) = AreSpans ss × (axis < length ss) × HalvesSpans (lower_half axis ss) lower × HalvesSpans (upper_half axis ss) upper
HalvesSpans ss _ = ⊤

-- some parameter's span of the one ends at or before the place where that of the other begins
abbrev pub Apart : Spans → Spans → Type 0
Apart (s ∷ ss) (r ∷ rs) = (s.1 ≤ℤ r.0) ⊎ ((r.1 ≤ℤ s.0) ⊎ Apart ss rs)
Apart _ _ = ⊥

-- The rectangles tile the root: every valuation inside the root lies in one of them, every valuation inside one of them lies in the root, and two of them at different places are apart.
pub record Tiles (d : ℤ) (root : Spans) (rectangles : List Spans) : Type 0 where
  pub cover : (v : Valuation) → Inside d root v → Any (λ ss. Inside d ss v) rectangles
  pub within : All (λ ss. (v : Valuation) → Inside d ss v → Inside d root v) rectangles
  pub apart : AllPairs Apart rectangles
