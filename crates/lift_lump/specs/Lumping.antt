-- Lumping of chains: partitions of the states into blocks of equal behaviour, as the textbook has them, but for the parameters, which stay. So what is compared are sums of polynomials, and two states of a block behave alike at every valuation.
use Rattle.std.specs.Prelude.{◌≡◌, ℕ, ◌<◌, ◌==◌, Bool, false, List, [], ◌∷◌, ◌++◌, length, if◌then◌else◌}
use Rattle.lift_poly.specs.Polynomial.{Term}
use Rattle.lift_poly.specs.Arithmetic.{collected}
use Rattle.lift_model.specs.declared.entry.Entry.{Entry}
use Rattle.lift_model.specs.Model.{ModelData, is_goal, row_at}

-- A partition says for each state the number of its block.
abbrev pub Partition : Type 0
Partition = ℕ → ℕ

-- the terms of those entries of a row that lead into a set of states
abbrev pub terms_into : (ℕ → Bool) → List Entry → List Term
terms_into inside [] = []
terms_into inside (entry ∷ row) = (if inside entry.target then entry.poly else []) ++ terms_into inside row

-- what a row's entries into a set of states sum to
abbrev pub sum_into : (ℕ → Bool) → List Entry → List Term
sum_into inside row = collected (terms_into inside row)

-- the states of a block
abbrev pub in_block : Partition → ℕ → ℕ → Bool
in_block block b s = block s == b

-- two states of the model that are in one block
pub record AreTogether (m : ModelData) (block : Partition) (s t : ℕ) : Type 0 where
  pub states : (s < length m.states) × (t < length m.states)
  pub same : block s ≡ block t

-- A right partition of a chain: states of a block are both goal states or both not, and if not, their entries into each block sum to the same.
pub record IsRight (m : ModelData) (block : Partition) : Type 0 where
  pub goals : (s t : ℕ) → AreTogether m block s t → is_goal m s ≡ is_goal m t
  pub sums : (s t b : ℕ) → AreTogether m block s t → is_goal m s ≡ false → sum_into (in_block block b) (row_at m s 0) ≡ sum_into (in_block block b) (row_at m t 0)

-- states that are together in the one partition are together in the other
abbrev pub Refines : ModelData → Partition → Partition → Type 0
Refines m fine coarse = (s t : ℕ) → AreTogether m fine s t → coarse s ≡ coarse t

-- every right partition is a refinement of this one
abbrev pub IsAboveRight : ModelData → Partition → Type 0
IsAboveRight m block = (other : Partition) → IsRight m other → Refines m other block

-- the coarsest right partition
pub record IsCoarsest (m : ModelData) (block : Partition) : Type 0 where
  pub right : IsRight m block
  pub above : IsAboveRight m block

-- ---- how it is found

-- a set of states that no block of the partition cuts
abbrev pub IsUnion : ModelData → Partition → (ℕ → Bool) → Type 0
IsUnion m block inside = (s t : ℕ) → AreTogether m block s t → inside s ≡ inside t

-- The new partition tells two states of a block apart only if one is a goal state and the other isn't, or if their entries into the set sum to different polynomials.
abbrev pub IsSplit : ModelData → Partition → Partition → (ℕ → Bool) → Type 0
IsSplit m old new inside =
    (s t : ℕ) → AreTogether m old s t → is_goal m s ≡ is_goal m t → (is_goal m s ≡ false → sum_into inside (row_at m s 0) ≡ sum_into inside (row_at m t 0))
    → new s ≡ new t
