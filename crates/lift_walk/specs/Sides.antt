-- The way down from the root of a case to the halves of rectangles: where a rectangle stands, and a pool with a lane of sides for each rectangle on the way.
use Rattle.std.specs.Prelude.{◌≡◌, ℕ, ◌+◌, ◌-◌, ◌*◌, ◌≤◌, ◌<◌, Bool, [], ◌∷◌, ℤ, length, if◌then◌else◌}
use Rattle.lift_pool.specs.Lanes.{PoolData, last_lane, pool_with, pool_without_last}
use Rattle.lift_pool.specs.Shapes.{HasLane}
use Rattle.lift_grid.specs.Rectangle.{Spans, AreSides, sides_of, spans_of}
use Rattle.lift_grid.specs.Splitting.{HasHalvings, IsHalvable}
use Rattle.lift_grid.specs.Tree.{lower_half, upper_half}
use Rattle.corner_lift.specs.Case.{CaseData, IsInside, greatest_depth}

-- ---- where a rectangle stands

-- a rectangle that halvings of the root come to at this depth: it lies inside the root, and can be halved as often as depth is left
pub record IsAtDepth (k : CaseData) (depth : ℕ) (spans : Spans) : Type 0 where
  pub inside : IsInside k.root spans
  pub left : HasHalvings (greatest_depth k - depth) spans

-- the lower half for true, the upper half for false
abbrev pub half_of : Bool → ℕ → Spans → Spans
half_of lower axis spans = if lower then lower_half axis spans else upper_half axis spans

-- ---- a pool of sides

-- how many ends a rectangle of the case has: two for each declared parameter
abbrev pub end_count : CaseData → ℕ
end_count k = 2 * length k.model.names

-- A pool that is made for the sides of a case: it has a lane for the root, and one more can be taken for each depth below it.
pub record IsMadeForSides (k : CaseData) (pool : PoolData ℤ) : Type 0 where
  pub lane : HasLane pool (end_count k)
  pub words : greatest_depth k * end_count k ≤ pool.spare
  pub depths : greatest_depth k ≤ pool.spare_lanes

-- A pool stands at a depth: its last lane holds a rectangle of that depth, and a lane more can be taken for each halving that is left.
pub record SidesStandAt (k : CaseData) (depth : ℕ) (pool : PoolData ℤ) : Type 0 where
  pub some : 0 < length pool.lanes
  pub sides : AreSides (last_lane pool.lanes)
  pub at_depth : IsAtDepth k depth (spans_of (last_lane pool.lanes))
  pub words : (greatest_depth k - depth) * length (last_lane pool.lanes) ≤ pool.spare
  pub depths : greatest_depth k - depth ≤ pool.spare_lanes

-- a half of the last rectangle can be taken as one lane more
pub record CanTakeHalf (axis : ℕ) (pool : PoolData ℤ) : Type 0 where
  pub some : 0 < length pool.lanes
  pub sides : AreSides (last_lane pool.lanes)
  pub halvable : IsHalvable axis (spans_of (last_lane pool.lanes))
  pub words : length (last_lane pool.lanes) ≤ pool.spare
  pub lanes : 1 ≤ pool.spare_lanes

-- the pool with a lane more, for a half of the last rectangle
abbrev pub sides_with_half : Bool → ℕ → PoolData ℤ → PoolData ℤ
sides_with_half lower axis pool = pool_with pool (sides_of (half_of lower axis (spans_of (last_lane pool.lanes))))

-- the pool with the root's sides as its one lane
abbrev pub sides_at_root : CaseData → PoolData ℤ → PoolData ℤ
sides_at_root k pool = record pool { lanes = sides_of k.root ∷ [] }

-- A half can be taken, the pool then stands one deeper, at that half, and giving it back leaves the pool as it was.
pub record GoesDown (k : CaseData) (depth axis : ℕ) (lower : Bool) (pool : PoolData ℤ) : Type 0 where
  pub can : CanTakeHalf axis pool
  pub placed : SidesStandAt k (depth + 1) (sides_with_half lower axis pool)
  pub half : spans_of (last_lane (sides_with_half lower axis pool).lanes) ≡ half_of lower axis (spans_of (last_lane pool.lanes))
  pub back : pool_without_last (sides_with_half lower axis pool) ≡ pool
