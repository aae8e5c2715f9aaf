-- What holds of the way down a tree, for who reasons about it.
use Rattle.std.specs.Prelude.{◌≡◌, ℕ, ◌+◌, ◌<◌, Bool, ℤ, length}
use Rattle.lift_pool.specs.Lanes.{PoolData, last_lane}
use Rattle.lift_grid.specs.Rectangle.{Spans, sides_of, spans_of}
use Rattle.lift_grid.specs.Splitting.{IsSplitAxis}
use Rattle.lift_grid.specs.Tree.{lower_half, upper_half}
use Rattle.lift_model.specs.Model.{live}
use Rattle.corner_lift.specs.Case.{CaseData, IsCase, greatest_depth}
use Rattle.lift_walk.specs.Sides.{IsAtDepth, IsMadeForSides, SidesStandAt, GoesDown, end_count, sides_at_root}

-- the root stands at depth 0
abbrev pub RootIsAtDepth : Type 0
RootIsAtDepth = (k : CaseData) → IsCase k → IsAtDepth k 0 k.root

-- while a halving is left, both halves on the axis of the split rule stand one deeper
abbrev pub HalvesAreDeeper : Type 0
HalvesAreDeeper = (k : CaseData) (spans : Spans) (depth axis : ℕ) → IsCase k → IsAtDepth k depth spans → depth < greatest_depth k → IsSplitAxis (live k.model) spans axis
    → IsAtDepth k (depth + 1) (lower_half axis spans) × IsAtDepth k (depth + 1) (upper_half axis spans)

-- the split rule chooses at most one axis
abbrev pub SplitAxesAreOne : Type 0
SplitAxesAreOne = (live : ℕ) (spans : Spans) (i j : ℕ) → IsSplitAxis live spans i → IsSplitAxis live spans j → i ≡ j

-- ---- sides

-- the root has two ends for each declared parameter
abbrev pub RootHasAllEnds : Type 0
RootHasAllEnds = (k : CaseData) → IsCase k → length (sides_of k.root) ≡ end_count k

-- a pool that is made for the sides of a case, with the root's in its lane, stands at depth 0
abbrev pub SidesBeginAtRoot : Type 0
SidesBeginAtRoot = (k : CaseData) (pool : PoolData ℤ) → IsCase k → IsMadeForSides k pool → SidesStandAt k 0 (sides_at_root k pool)

-- while a halving is left, a pool can go down to both halves on the axis of the split rule
abbrev pub SidesGoDown : Type 0
SidesGoDown = (k : CaseData) (pool : PoolData ℤ) (depth axis : ℕ) (lower : Bool) → IsCase k → SidesStandAt k depth pool → depth < greatest_depth k → IsSplitAxis (live k.model) (spans_of (last_lane pool.lanes)) axis
    → GoesDown k depth axis lower pool
