-- Rectangles of parameter values: a span for each declared parameter, as whole numbers over the grid.
use Rattle.std.specs.Prelude.{◌≡◌, ◌<◌, ◌^◌, ◌/◌, ◌%◌, ℕ, zero, suc, List, [], ◌∷◌, ℤ, pos, ◌*ℤ◌, ◌≤ℤ◌, ◌<ℤ◌, unsigned_abs, length, count_ones, slice_index_or}
use Rattle.std.specs.List.{AllByRecursion}
use Rattle.lift_frac.specs.Limits.{size_limit}
use Rattle.lift_poly.specs.Polynomial.{Valuation}

-- the low and the high end of each declared parameter, in declared order
abbrev pub Spans : Type 0
Spans = List (ℤ × ℤ)

-- The valuation lies in the rectangle with these spans over the grid d: each denominator is above 0, and each value is from its parameter's low end to its high end. A rectangle without parameters holds the empty valuation.
abbrev pub Inside : ℤ → Spans → Valuation → Type 0
Inside d [] [] = Unit {0}
Inside d (s ∷ ss) (x ∷ v) = (pos 0 <ℤ x.1) × ((s.0 *ℤ x.1) ≤ℤ (x.0 *ℤ d)) × ((x.0 *ℤ d) ≤ℤ (s.1 *ℤ x.1)) × Inside d ss v
Inside d _ _ = ⊥

-- the low end is below the high end, and both sizes are below the limit
pub record IsSpan (s : ℤ × ℤ) : Type 0 where
  pub rising : s.0 <ℤ s.1
  pub low : unsigned_abs s.0 < size_limit
  pub high : unsigned_abs s.1 < size_limit

-- every span of the rectangle is one
abbrev pub AreSpans : Spans → Type 0
AreSpans ss = AllByRecursion IsSpan ss

-- the ends in a row: low and high end of the first parameter, low and high end of the second, and so on
abbrev pub sides_of : Spans → List ℤ
sides_of [] = []
sides_of (s ∷ ss) = s.0 ∷ s.1 ∷ sides_of ss

-- the spans whose ends stand in a row
abbrev pub spans_of : List ℤ → Spans
spans_of [] = []
spans_of (low ∷ []) = []
spans_of (low ∷ high ∷ sides) = (low, high) ∷ spans_of sides

-- the row holds a low and a high end for each parameter, and they make a rectangle
pub record AreSides (sides : List ℤ) : Type 0 where
  pub paired : sides_of (spans_of sides) ≡ sides
  pub spans : AreSpans (spans_of sides)

-- how many parameters of the set come before that one
abbrev pub place_in : ℕ → ℕ → ℕ
place_in set parameter = count_ones (set % 2 ^ parameter)

-- the low end for 0, the high end for 1
abbrev pub end_of : ℕ → ℤ × ℤ → ℤ
end_of zero s = s.0
end_of (suc bit) s = s.1

-- The end of a parameter's span that a corner of a parameter set chooses: bit i of the corner's number stands for the i-th smallest parameter of the set.
abbrev pub corner_side : Spans → ℕ → ℕ → ℕ → ℤ
corner_side ss set corner parameter = end_of (corner / 2 ^ place_in set parameter % 2) (slice_index_or ss parameter (pos 0, pos 0))

-- the number is a multiple of n
abbrev pub IsMultiple : ℕ → ℤ → Type 0
IsMultiple n z = (k : ℤ) × (z ≡ k *ℤ pos n)

-- every end of the rectangle is a multiple of n
abbrev pub AreMultiples : ℕ → Spans → Type 0
AreMultiples n ss = AllByRecursion (λ s. IsMultiple n s.0 × IsMultiple n s.1) ss

-- how often a rectangle may be halved at most, by our own profile
abbrev pub most_halvings : ℕ
most_halvings = 20

-- A rectangle with so many spans over the grid d: d is from 1 on and below the size limit, and each span can be halved depth times.
pub record IsOnGrid (d : ℤ) (depth count : ℕ) (ss : Spans) : Type 0 where
  pub positive : pos 0 <ℤ d
  pub small : unsigned_abs d < size_limit
  pub one_each : length ss ≡ count
  pub multiples : AreMultiples (2 ^ depth) ss
