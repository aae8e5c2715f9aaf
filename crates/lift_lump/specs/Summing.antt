-- What the sums of a row's entries keep while they are made and taken.
use Rattle.std.specs.Prelude.{◌≡◌, ◌≢◌, ℕ, zero, suc, ◌<◌, List, [], ◌++◌, length, slice_index_or, All, Contains}
use Rattle.lift_poly.specs.Polynomial.{Term}
use Rattle.lift_model.specs.declared.entry.Entry.{Entry}
use Rattle.lift_lump.specs.Quotient.{one_entry}

-- the sum into a block
abbrev pub sum_at : List (List Term) → ℕ → List Term
sum_at sums b = slice_index_or sums b []

-- the sums into the first blocks, so many, as entries
abbrev pub entries_of : List (List Term) → ℕ → List Entry
entries_of sums zero = []
entries_of sums (suc b) = entries_of sums b ++ one_entry b (sum_at sums b)

-- each block whose sum isn't 0 is in the list, and only blocks are
pub record AreVisitedBlocks (sums : List (List Term)) (visited : List ℕ) : Type 0 where
  pub some : (b : ℕ) → sum_at sums b ≢ [] → Contains visited b
  pub blocks : All (λ b. b < length sums) visited

-- the sums into so many blocks are all 0
pub record AreNone (blocks : ℕ) (sums : List (List Term)) (list : List ℕ) (poly : List Term) : Type 0 where
  pub count : length sums ≡ blocks
  pub none : (b : ℕ) → sum_at sums b ≡ []
  pub visited : list ≡ []
  pub zero : poly ≡ []
