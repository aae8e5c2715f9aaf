-- The quotient of a chain by a partition: one state for each block.
use Rattle.std.specs.Prelude.{◌≡◌, ℕ, zero, suc, ◌<◌, ◌≤◌, List, [], ◌∷◌, ◌++◌, ℤ, length, map, slice_index_or, if◌then◌else◌}
use Rattle.std.specs.List.Sorted.{IsStrictlyIncreasing}
use Rattle.lift_poly.specs.Polynomial.{Term, Valuation, constant}
use Rattle.lift_model.specs.declared.entry.Entry.{Entry}
use Rattle.lift_model.specs.Memoryless.{memoryless_reach}
use Rattle.lift_model.specs.Model.{ModelData, is_goal, row_at, process_at}
use Rattle.lift_lump.specs.Lumping.{Partition, sum_into, in_block}

-- the blocks of all states as a list, and the least state of each block
pub record Blocks : Type 0 where
  pub of_states : List ℕ
  pub firsts : List ℕ

-- the block of a state
abbrev pub block : Blocks → Partition
block p s = slice_index_or p.of_states s 0

-- the least state of a block
abbrev pub first : Blocks → ℕ → ℕ
first p b = slice_index_or p.firsts b 0

-- blocks of so many states are numbered by their least states
pub record AreNumbered (states : ℕ) (p : Blocks) : Type 0 where
  pub count : length p.of_states ≡ states
  pub ascending : IsStrictlyIncreasing p.firsts
  pub least : (b : ℕ) → b < length p.firsts → (first p b < states) × (block p (first p b) ≡ b)
  pub inside : (s : ℕ) → s < states → (block p s < length p.firsts) × (first p (block p s) ≤ s)

-- an entry of this polynomial, and none where it is 0
abbrev pub one_entry : ℕ → List Term → List Entry
one_entry b [] = []
one_entry b (term ∷ terms) = record { target = b; poly = term ∷ terms } ∷ []

-- a row's entries into the first blocks, so many, each into one block
abbrev pub entries_into : Partition → List Entry → ℕ → List Entry
entries_into block row zero = []
entries_into block row (suc b) = entries_into block row b ++ one_entry b (sum_into (in_block block b) row)

-- the row of a block: that of its least state, and for goal states an entry to their block itself
abbrev pub quotient_row : ModelData → Blocks → ℕ → List Entry
quotient_row m p s =
    if is_goal m s then record { target = block p s; poly = constant m.common } ∷ []
    else entries_into (block p) (row_at m s 0) (length p.firsts)

-- the quotient
abbrev pub quotient : ModelData → Blocks → ModelData
quotient m p = record {
  kind = m.kind;
  common = m.common;
  names = m.names;
  goal = map (is_goal m) p.firsts;
  init = block p m.init;
  states = map (λ s. quotient_row m p s ∷ []) p.firsts;
}

-- What is reached from a state of a chain within n steps, at a valuation, over the n-th power of the total: a chain has one scheduler.
abbrev pub hold : ModelData → Valuation → ℕ → ℕ → ℤ
hold m v n s = memoryless_reach (process_at m v) (λ _. 0) n s
