-- Links: what iterations over a model look up. Where each row and its corner weights stand in a table, which states lead to a state, and an order of the states.
use Rattle.std.specs.Prelude.{◌≡◌, ℕ, ◌+◌, ◌-◌, ◌*◌, ◌^◌, ◌<◌, ◌≤◌, Bool, true, false, List, length, map, take, sum_by, slice_index_or, slice_range, count_ones, Contains}
use Rattle.std.specs.List.{concat}
use Rattle.std.specs.List.Sorted.{IsStrictlyIncreasing}
use Rattle.lift_poly.specs.Polynomial.{Term}
use Rattle.lift_model.specs.declared.entry.Entry.{Entry}
use Rattle.lift_model.specs.declared.layout.RowPlace.{RowPlace}
use Rattle.lift_model.specs.declared.blocks.FirstRow.{FirstRow}
use Rattle.lift_model.specs.Order.{IsOrder}
use Rattle.lift_model.specs.Model.{ModelData, support, choices, row_at}

-- ---- of a model

-- there is such a choice
pub record HasChoice (m : ModelData) (s a : ℕ) : Type 0 where
  pub state : s < length m.states
  pub choice : a < length (choices m s)

-- how many rows stand before the state's choice, in reading order
abbrev pub row_number : ModelData → ℕ → ℕ → ℕ
row_number m s a = sum_by length (take s m.states) + a

-- the polynomials of a row
abbrev pub polynomials : List Entry → List (List Term)
polynomials row = map (λ entry. entry.poly) row

-- how many weights a row has in a table: one for each entry at each corner
abbrev pub weight_count : List Entry → ℕ
weight_count row = length row * 2 ^ count_ones (support row)

-- the targets of a row
abbrev pub targets_of : List Entry → List ℕ
targets_of row = map (λ entry. entry.target) row

-- the targets of all choices of a state
abbrev pub all_targets : ModelData → ℕ → List ℕ
all_targets m s = concat (map targets_of (choices m s))

-- some entry of the state t leads to s
abbrev pub Leads : ModelData → ℕ → ℕ → Type 0
Leads m t s = Contains (all_targets m t) s

-- the states that have an entry into s, ascending
pub record AreBefore (m : ModelData) (s : ℕ) (before : List ℕ) : Type 0 where
  pub ascending : IsStrictlyIncreasing before
  pub only : (t : ℕ) → Contains before t → Leads m t s
  pub all : (t : ℕ) → Leads m t s → Contains before t

-- ---- the blocks of a table

-- A table has a block of weights for each of these rows, in this order. A block serves only rows with the same polynomials, entry for entry.
abbrev pub Firsts : Type 0
Firsts = List FirstRow

-- the row
abbrev pub first_row : ModelData → FirstRow → List Entry
first_row m first = row_at m first.state first.choice

-- how many weights the first blocks have, so many of them: where the next block begins
abbrev pub block_place : ModelData → Firsts → ℕ → ℕ
block_place m firsts block = sum_by (λ first. weight_count (first_row m first)) (take block firsts)

-- stands for a block past the end
abbrev pub no_first : FirstRow
no_first = record { state = 0; choice = 0 }

-- the row has its weights in a block of a row with the same polynomials, entry for entry, which begins at that place
pub record HasBlock (m : ModelData) (firsts : Firsts) (row : List Entry) (place : ℕ) : Type 0 where
  pub block : ℕ
  pub inside : block < length firsts
  pub same : polynomials (first_row m (slice_index_or firsts block no_first)) ≡ polynomials row
  pub begins : place ≡ block_place m firsts block

-- ---- links

-- The links of a model as flat lists. Of a list for each state the part of a state s stands from `starts` at s to before `ends` at s.
pub record LinksData : Type 0 where
  pub row_starts : List ℕ
  pub rows : List RowPlace
  pub targets : List ℕ
  pub firsts : Firsts
  pub weights : ℕ
  pub starts : List ℕ
  pub ends : List ℕ
  pub before : List ℕ
  pub before_positions : List ℕ
  pub order : List ℕ
  pub component_ends : List ℕ
  pub positions : List ℕ
  pub lone : List Bool

-- stands for the place of a row past the end
abbrev pub no_place : RowPlace
no_place = record { entries = 0; count = 0; corners = 0; weights = 0 }

-- how many states
abbrev pub state_count : LinksData → ℕ
state_count l = length l.positions

-- the number of the row of a state's choice
abbrev pub row_place : LinksData → ℕ → ℕ → ℕ
row_place l s a = slice_index_or l.row_starts s 0 + a

-- how many choices the state has
abbrev pub choice_count : LinksData → ℕ → ℕ
choice_count l s = slice_index_or l.row_starts (s + 1) 0 - slice_index_or l.row_starts s 0

-- where the row of a state's choice has its targets and weights
abbrev pub place : LinksData → ℕ → ℕ → RowPlace
place l s a = slice_index_or l.rows (row_place l s a) no_place

-- the states before a state
abbrev pub states_before : LinksData → ℕ → List ℕ
states_before l s = slice_range l.before (slice_index_or l.starts s 0) (slice_index_or l.ends s 0)

-- the positions of the states before a state
abbrev pub positions_before : LinksData → ℕ → List ℕ
positions_before l s = slice_range l.before_positions (slice_index_or l.starts s 0) (slice_index_or l.ends s 0)

-- the position of a state in the order
abbrev pub position : LinksData → ℕ → ℕ
position l s = slice_index_or l.positions s 0

-- all states that lead to s stand behind it in the order, but for itself
abbrev pub IsLone : ModelData → LinksData → ℕ → Type 0
IsLone m l s = (t : ℕ) → Leads m t s → position l s ≤ position l t

-- where a row's targets and weights begin, and how many entries and corners it has
pub record IsRowPlace (m : ModelData) (targets : List ℕ) (firsts : Firsts) (row : List Entry) (place : RowPlace) : Type 0 where
  pub count : place.count ≡ length row
  pub corners : place.corners ≡ 2 ^ count_ones (support row)
  pub room : place.entries + place.count ≤ length targets
  pub entries : slice_range targets place.entries (place.entries + place.count) ≡ targets_of row
  pub block : HasBlock m firsts row place.weights

-- where the rows of a model and their weights stand
pub record ArePlaces (m : ModelData) (l : LinksData) : Type 0 where
  pub states : state_count l ≡ length m.states
  pub choices : (s : ℕ) → s < length m.states → choice_count l s ≡ length (choices m s)
  pub numbers : (s : ℕ) → s < length m.states → slice_index_or l.row_starts s 0 ≡ row_number m s 0
  pub places : (s a : ℕ) → HasChoice m s a → IsRowPlace m l.targets l.firsts (row_at m s a) (place l s a)
  pub firsts : (block : ℕ) → block < length l.firsts → HasChoice m (slice_index_or l.firsts block no_first).state (slice_index_or l.firsts block no_first).choice
  pub weights : l.weights ≡ block_place m l.firsts (length l.firsts)

-- the links of a model: the places of its rows, the states before each state, and an order
pub record AreLinks (m : ModelData) (l : LinksData) : Type 0 where
  pub laid : ArePlaces m l
  pub before : (s : ℕ) → s < length m.states → AreBefore m s (states_before l s)
  pub before_positions : (s : ℕ) → s < length m.states → positions_before l s ≡ map (position l) (states_before l s)
  pub order : IsOrder l.order l.positions (length m.states)
  pub lone : (s : ℕ) → s < length m.states → slice_index_or l.lone s false ≡ true → IsLone m l s
