-- What holds of pools, for who reasons about them.
use Rattle.std.specs.Prelude.{◌≡◌, ℕ, ◌<◌, ◌≤◌, List, [], ◌∷◌, length, slice_index_or, slice_set}
use Rattle.lift_pool.specs.Lanes.{PoolData, pool_with, pool_without_last, pool_written}
use Rattle.lift_pool.specs.Shapes.{HasLane, HasLanes, IsSameShape}

-- what is written over a lane and has its length changes that lane alone
abbrev pub WritesOneLane : Type 0 → Type 0
WritesOneLane T = (p : PoolData T) (i : ℕ) (lane : List T) → i < length p.lanes → length lane ≡ length (slice_index_or p.lanes i [])
    → pool_written p i lane ≡ record p { lanes = slice_set p.lanes i lane }

-- dropping a lane that was taken last leaves the pool as it was before, where the lane fitted
abbrev pub TakesCanBeUndone : Type 0 → Type 0
TakesCanBeUndone T = (p : PoolData T) (lane : List T) → length lane ≤ p.spare → 1 ≤ p.spare_lanes → pool_without_last (pool_with p lane) ≡ p

-- ---- shapes

-- of so many lanes of one length each has that length
abbrev pub LanesHaveLengths : Type 0 → Type 0
LanesHaveLengths T = (p : PoolData T) (count n i : ℕ) → HasLanes p count n → i < count → (i < length p.lanes) × (length (slice_index_or p.lanes i []) ≡ n)

-- of two pools of one shape lanes of one number have one length
abbrev pub SameShapesHaveLengths : Type 0 → Type 0
SameShapesHaveLengths T = (p q : PoolData T) (i : ℕ) → IsSameShape p q → length (slice_index_or q.lanes i []) ≡ length (slice_index_or p.lanes i [])

-- what is written over a lane and has its length leaves the shape
abbrev pub WritesKeepShape : Type 0 → Type 0
WritesKeepShape T = (p : PoolData T) (i : ℕ) (lane : List T) → length lane ≡ length (slice_index_or p.lanes i []) → IsSameShape p (record p { lanes = slice_set p.lanes i lane })

-- what is written over the one lane of a pool is all that it then has
abbrev pub OneLaneIsAll : Type 0 → Type 0
OneLaneIsAll T = (p : PoolData T) (n : ℕ) (lane : List T) → HasLane p n → slice_set p.lanes 0 lane ≡ lane ∷ []
