-- What holds of grids, of regions and of halves, for who reasons about them.
use Rattle.std.specs.Prelude.{◌≡◌, Ok, ◌+◌, ◌*◌, ◌^◌, ◌<◌, ℕ, List, [], ◌∷◌, ℤ, pos, ◌+ℤ◌, ◌*ℤ◌, ◌<ℤ◌, unsigned_abs, length, map, IsBitSet, slice_index_or, All}
use Rattle.std.specs.Int.{◌∣◌}
use Rattle.lift_frac.specs.Ratio.{Ratio}
use Rattle.lift_grid.specs.Rectangle.{Spans, AreSpans, AreSides, IsOnGrid, end_of, sides_of, spans_of}
use Rattle.lift_grid.specs.Region.{Region, region, Interval, Divides, common_denominator, number_over}
use Rattle.lift_grid.specs.Splitting.{IsHalvable, HasHalvings}
use Rattle.lift_grid.specs.Tree.{Tree, HalvesSpans, Tiles, leaves, middle, lower_half, upper_half}

-- a fraction's number over a grid is worth the fraction, where its denominator divides d
abbrev pub NumbersAreExact : Type 0
NumbersAreExact = (d depth : ℕ) (q : Ratio) → pos 0 <ℤ q.den → unsigned_abs q.den ∣ d
    → number_over d depth q *ℤ q.den ≡ q.num *ℤ pos (d * 2 ^ depth)

-- the common denominator of intervals is a multiple of the denominator of each end
abbrev pub DenominatorsDivide : Type 0
DenominatorsDivide = (intervals : List Interval) → All (Divides (common_denominator intervals)) intervals

-- the region is a rectangle on its grid, with a span for each name, and can be halved as often as was asked for
pub record IsRegionOf (names : List (List ℕ)) (depth : ℕ) (r : Region) : Type 0 where
  pub spans : AreSpans r.spans
  pub grid : IsOnGrid r.d r.depth (length names) r.spans
  pub depth_is : r.depth ≡ depth

-- a text that names a region names one on its grid
abbrev pub NamedRegionsAreOnGrid : Type 0
NamedRegionsAreOnGrid = (names : List (List ℕ)) (depth : ℕ) (text : List ℕ) (r : Region) → region names depth text ≡ Ok r → IsRegionOf names depth r

-- a parameter that a set holds has an index below n, where the set is below 2 ^ n
abbrev pub MembersAreBelow : Type 0
MembersAreBelow = (n set i : ℕ) → set < 2 ^ n → IsBitSet set i → i < n

-- the spans of a rectangle's ends in a row are the rectangle again
abbrev pub SpansOfSides : Type 0
SpansOfSides = (ss : Spans) → spans_of (sides_of ss) ≡ ss

-- a rectangle's ends in a row are sides
abbrev pub SidesOfSpans : Type 0
SidesOfSpans = (ss : Spans) → AreSpans ss → AreSides (sides_of ss)

-- an end of a parameter's span stands in the row at twice the parameter's index, or one behind that
abbrev pub EndsStandInRow : Type 0
EndsStandInRow = (sides : List ℤ) (i bit : ℕ) → bit < 2 → 2 * i + 1 < length sides
    → slice_index_or sides (2 * i + bit) (pos 0) ≡ end_of bit (slice_index_or (spans_of sides) i (pos 0, pos 0))

-- ---- halves

-- where a halving is left, each span can be halved
abbrev pub SpansAreHalvable : Type 0
SpansAreHalvable = (n axis : ℕ) (ss : Spans) → HasHalvings (n + 1) ss → axis < length ss → IsHalvable axis ss

-- twice the midpoint is the sum of the two ends, where a span can be halved
abbrev pub MidpointsAreExact : Type 0
MidpointsAreExact = (axis : ℕ) (ss : Spans) → IsHalvable axis ss → let s = slice_index_or ss axis (pos 0, pos 0) in middle s +ℤ middle s ≡ s.0 +ℤ s.1

-- both halves of a rectangle have one halving less than it
abbrev pub HalvesHaveOneLess : Type 0
HalvesHaveOneLess = (n axis : ℕ) (ss : Spans) → HasHalvings (n + 1) ss → axis < length ss
    → HasHalvings n (lower_half axis ss) × HasHalvings n (upper_half axis ss)

-- both halves have a span for each parameter that the rectangle has one for
abbrev pub HalvesKeepCount : Type 0
HalvesKeepCount = (axis : ℕ) (ss : Spans) → (length (lower_half axis ss) ≡ length ss) × (length (upper_half axis ss) ≡ length ss)

-- the two halves tile the rectangle, whatever the grid's number is
abbrev pub HalvesTile : Type 0
HalvesTile = (d : ℤ) (axis : ℕ) (ss : Spans) → AreSpans ss → axis < length ss → Tiles d ss (lower_half axis ss ∷ upper_half axis ss ∷ [])

-- the leaves of a tree tile its rectangle, where each of its splits halves a span
abbrev pub TreesTile : Type 0
TreesTile = (d : ℤ) (ss : Spans) (depth : ℕ) (t : Tree) → HalvesSpans ss t → Tiles d ss (map (λ leaf. leaf.spans) (leaves ss depth t))
