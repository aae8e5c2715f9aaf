-- States that have one short row: what is looked up of it.
use Rattle.std.specs.Prelude.{◌≡◌, ◌≢◌, ℕ, ◌+◌, ◌-◌, List, [], ◌∷◌, length, slice_index_or}
use Rattle.lift_model.specs.declared.layout.RowPlace.{RowPlace}
use Rattle.lift_model.specs.declared.only_row.PairRow.{PairRow}
use Rattle.lift_model.specs.declared.only_row.OnlyRow.{OnlyRow}
use Rattle.lift_model.specs.declared.only_row.OnlyRow.TheVariants.{Single, Pair, Other}
use Rattle.lift_model.specs.Model.{ModelData, choices, row_at}
use Rattle.lift_model.specs.Links.{LinksData, targets_of, place, no_place}

-- ---- of a model and its links

-- the state has one row, which has two entries, with these targets, and these aren't the state; its weights begin at that place, and stand for so many corners
pub record IsPairRow (m : ModelData) (l : LinksData) (s : ℕ) (p : PairRow) : Type 0 where
  pub only : length (choices m s) ≡ 1
  pub targets : targets_of (row_at m s 0) ≡ p.first ∷ p.second ∷ []
  pub others : (p.first ≢ s) × (p.second ≢ s)
  pub weights : (place l s 0).weights ≡ p.weights
  pub corners : (place l s 0).corners ≡ p.corners

-- the state has one row, which has one entry, and its target isn't the state
pub record IsSingleRow (m : ModelData) (s t : ℕ) : Type 0 where
  pub only : length (choices m s) ≡ 1
  pub targets : targets_of (row_at m s 0) ≡ t ∷ []
  pub other : t ≢ s

-- the only row of a state, if it is told
abbrev pub IsOnlyRow : ModelData → LinksData → ℕ → OnlyRow → Type 0
IsOnlyRow m l s (Single t) = IsSingleRow m s t
IsOnlyRow m l s (Pair p) = IsPairRow m l s p
IsOnlyRow m l s Other = Unit {0}

-- ---- in flat lists: where the rows of each state begin, the places of rows, and their targets

-- the state has one row, which stands at that place
pub record IsOnlyPlace (starts : List ℕ) (rows : List RowPlace) (s : ℕ) (at : RowPlace) : Type 0 where
  pub only : slice_index_or starts (s + 1) 0 - slice_index_or starts s 0 ≡ 1
  pub is : slice_index_or rows (slice_index_or starts s 0) no_place ≡ at

-- what the row at that place is told as
abbrev pub IsRowAt : List ℕ → RowPlace → ℕ → OnlyRow → Type 0
IsRowAt targets at s (Single t) = (at.count ≡ 1) × ((slice_index_or targets at.entries 0 ≡ t) × (t ≢ s))
IsRowAt targets at s (Pair p) = (at.count ≡ 2) × ((slice_index_or targets at.entries 0 ≡ p.first) × ((slice_index_or targets (at.entries + 1) 0 ≡ p.second) × ((p.first ≢ s) × ((p.second ≢ s) × ((at.weights ≡ p.weights) × (at.corners ≡ p.corners))))))
IsRowAt targets at s Other = Unit {0}

-- what the only row of a state is told as
abbrev pub IsOnlyRowIn : List ℕ → List RowPlace → List ℕ → ℕ → OnlyRow → Type 0
IsOnlyRowIn starts rows targets s Other = Unit {0}
IsOnlyRowIn starts rows targets s row = (at : RowPlace) × (IsOnlyPlace starts rows s at × IsRowAt targets at s row)

-- what those of all states are told as
abbrev pub AreOnlyRowsIn : List ℕ → List RowPlace → List ℕ → List OnlyRow → Type 0
AreOnlyRowsIn starts rows targets only = (s : ℕ) → IsOnlyRowIn starts rows targets s (slice_index_or only s Other)
