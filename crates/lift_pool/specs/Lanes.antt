-- What a pool is seen as, and what its calls make of it. A word is one element of the block.
use Rattle.std.specs.Prelude.{ℕ, zero, suc, ◌+◌, ◌-◌, List, [], ◌∷◌, ◌++◌, length, slice_index_or, take, drop, map}

-- A pool: its lanes in the order in which they were taken, and how many words and how many lanes can still be taken.
pub record PoolData (T : Type 0) : Type 0 where
  pub lanes : List (List T)
  pub spare : ℕ
  pub spare_lanes : ℕ

-- the last of the lanes
abbrev pub last_lane : {T : Type 0} → List (List T) → List T
last_lane lanes = slice_index_or lanes (length lanes - 1) []

-- the pool with one lane more
abbrev pub pool_with : {T : Type 0} → PoolData T → List T → PoolData T
pool_with p lane = record { lanes = p.lanes ++ lane ∷ []; spare = p.spare - length lane; spare_lanes = p.spare_lanes - 1 }

-- the pool without its last lane
abbrev pub pool_without_last : {T : Type 0} → PoolData T → PoolData T
pool_without_last p = record { lanes = take (length p.lanes - 1) p.lanes; spare = p.spare + length (last_lane p.lanes); spare_lanes = p.spare_lanes + 1 }

-- ---- a lane that is written while it is lent

-- the words of all lanes in a row
abbrev pub joined : {T : Type 0} → List (List T) → List T
joined [] = []
joined (lane ∷ lanes) = lane ++ joined lanes

-- the lanes of these lengths that a row of words is dealt to
abbrev pub dealt : {T : Type 0} → List ℕ → List T → List (List T)
dealt [] words = []
dealt (n ∷ lengths) words = take n words ∷ dealt lengths (drop n words)

-- how many words stand before the lane of that number
abbrev pub offset : {T : Type 0} → List (List T) → ℕ → ℕ
offset lanes zero = 0
offset [] (suc i) = 0
offset (lane ∷ lanes) (suc i) = length lane + offset lanes i

-- the words with the new ones written over them from place i on, as far as they go
abbrev pub written_over : {T : Type 0} → ℕ → List T → List T → List T
written_over i new words = let all = take i words ++ (new ++ drop (length new) (drop i words)) in take (length words) (all ++ drop (length all) words)

-- The pool with the words of lane i written over by the new ones. A lane that is lent keeps its length, and then that lane alone changes, by a law.
abbrev pub pool_written : {T : Type 0} → PoolData T → ℕ → List T → PoolData T
pool_written p i new = record p { lanes = dealt (map length p.lanes) (written_over (offset p.lanes i) new (joined p.lanes)) }
