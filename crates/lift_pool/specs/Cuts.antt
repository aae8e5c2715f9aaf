-- How a pool holds its lanes: one block of words, and where in it each lane ends. For the pool's own invariant and helpers.
use Rattle.std.specs.Prelude.{◌≡◌, ℕ, zero, suc, ◌+◌, ◌≤◌, List, [], ◌∷◌, length, slice_range}

-- the lanes that a block holds, where the first begins at `from` and each ends where the next begins
abbrev pub cut : {T : Type 0} → ℕ → List ℕ → List T → List (List T)
cut from [] block = []
cut from (end ∷ ends) block = slice_range block from end ∷ cut end ends block

-- where the lane of that number begins, the first beginning at `from`
abbrev pub start : ℕ → List ℕ → ℕ → ℕ
start from ends zero = from
start from [] (suc i) = from
start from (end ∷ ends) (suc i) = start end ends i

-- the ends ascend from there, and the last is the end of the block
abbrev pub Ascend : ℕ → List ℕ → ℕ → Type 0
Ascend from [] top = from ≡ top
Ascend from (end ∷ ends) top = (from ≤ end) × Ascend end ends top

-- the lanes fill the block, and what is spare fits beside them into the memory that was taken for words and for ends
pub record IsCut {T : Type 0} (ends : List ℕ) (block : List T) (capacity spare : ℕ) (lanes_capacity spare_lanes : ℕ) : Type 0 where
  pub ascend : Ascend 0 ends (length block)
  pub words : length block + spare ≤ capacity
  pub lanes : length ends + spare_lanes ≤ lanes_capacity
