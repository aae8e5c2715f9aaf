-- The shape of a pool: how many lanes it has, how many words each has, and how much can still be taken.
use Rattle.std.specs.Prelude.{◌≡◌, ℕ, [], ◌∷◌, map, length, replicate}
use Rattle.lift_pool.specs.Lanes.{PoolData}

-- the pool has so many lanes, each of so many words
abbrev pub HasLanes : {T : Type 0} → PoolData T → ℕ → ℕ → Type 0
HasLanes p count n = map length p.lanes ≡ replicate count n

-- the pool has one lane, of so many words
abbrev pub HasLane : {T : Type 0} → PoolData T → ℕ → Type 0
HasLane p n = map length p.lanes ≡ n ∷ []

-- a pool with the same number of lanes, of the same lengths, and as much that can be taken
pub record IsSameShape {T : Type 0} (old new : PoolData T) : Type 0 where
  pub lanes : map length new.lanes ≡ map length old.lanes
  pub spare : new.spare ≡ old.spare
  pub spare_lanes : new.spare_lanes ≡ old.spare_lanes
