-- How the states that a split touches get their new blocks.
use Rattle.std.specs.Prelude.{◌≡◌, ◌≢◌, ℕ, ◌+◌, ◌*◌, ◌/◌, ◌^◌, ◌<◌, ◌≤◌, ◌==◌, List, length, count_by, slice_index_or, All}
use Rattle.lift_lump.specs.declared.touch.Touched.{Touched}

-- a state's block and number as one key
abbrev pub key_of : List ℕ → List ℕ → ℕ → ℕ
key_of labels numbers s = slice_index_or labels s 0 * 2 ^ 64 + slice_index_or numbers s 0

-- stands for a place past the end
abbrev pub no_touched : Touched
no_touched = record { key = 0; state = 0 }

-- the key at a place
abbrev pub key_at : List Touched → ℕ → ℕ
key_at touched i = (slice_index_or touched i no_touched).key

-- the block at a place
abbrev pub block_at : List Touched → ℕ → ℕ
block_at touched i = key_at touched i / 2 ^ 64

-- the state at a place
abbrev pub state_at : List Touched → ℕ → ℕ
state_at touched i = (slice_index_or touched i no_touched).state

-- a state with its key
pub record IsTouched (labels numbers : List ℕ) (t : Touched) : Type 0 where
  pub inside : t.state < length labels
  pub key : t.key ≡ key_of labels numbers t.state

-- the state stands in the list
abbrev pub StandsIn : List Touched → ℕ → Type 0
StandsIn touched s = (i : ℕ) × (i < length touched) × (state_at touched i ≡ s)

-- States with their keys: with a state all states of its block that have its number. So those whose number isn't 0 are such, and where the others of a block are fewer these may stand there too.
pub record AreTouched (labels numbers : List ℕ) (touched : List Touched) : Type 0 where
  pub each : All (IsTouched labels numbers) touched
  pub all : (s t : ℕ) → t < length labels → slice_index_or labels s 0 ≡ slice_index_or labels t 0 → slice_index_or numbers s 0 ≡ slice_index_or numbers t 0 → StandsIn touched s → StandsIn touched t

-- each state whose number isn't 0 is touched
abbrev pub AreAllTouched : List ℕ → List ℕ → List Touched → Type 0
AreAllTouched labels numbers touched = (s : ℕ) → s < length labels → slice_index_or numbers s 0 ≢ 0 → StandsIn touched s

-- keys don't fall
abbrev pub AreSortedKeys : List Touched → Type 0
AreSortedKeys touched = (i j : ℕ) → i ≤ j → j < length touched → key_at touched i ≤ key_at touched j

-- the block at each place is the label of the state there
abbrev pub AreKeyed : List ℕ → List Touched → Type 0
AreKeyed labels touched = (i : ℕ) → i < length touched → block_at touched i ≡ slice_index_or labels (state_at touched i) 0

-- how many states of a block are touched
abbrev pub touched_in : List Touched → ℕ → ℕ
touched_in touched b = count_by (λ (t : Touched). t.key / 2 ^ 64 == b) touched

-- more than half of the states of a block are touched
abbrev pub IsCrowded : List ℕ → List Touched → ℕ → Type 0
IsCrowded sizes touched b = slice_index_or sizes b 0 < 2 * touched_in touched b

-- at the second place begins a run of states with one key, of the block whose states begin at the first one
pub record IsRun (touched : List Touched) (from place : ℕ) : Type 0 where
  pub inside : place < length touched
  pub behind : from ≤ place
  pub block : block_at touched place ≡ block_at touched from
  pub begins : (j : ℕ) → j + 1 ≡ place → key_at touched j ≢ key_at touched place

-- a state has one key
abbrev pub HaveOneKey : List Touched → Type 0
HaveOneKey touched = (i j : ℕ) → i < length touched → j < length touched → state_at touched i ≡ state_at touched j → key_at touched i ≡ key_at touched j

-- the first of these states, so many, have new labels: the same where their keys are the same
pub record AreRenamed (touched : List Touched) (old new : List ℕ) (count : ℕ) : Type 0 where
  pub size : length new ≡ length old
  pub same : (i j : ℕ) → i < count → j < count → key_at touched i ≡ key_at touched j → slice_index_or new (state_at touched i) 0 ≡ slice_index_or new (state_at touched j) 0
  pub others : (s : ℕ) → ((i : ℕ) → i < count → state_at touched i ≢ s) → slice_index_or new s 0 ≡ slice_index_or old s 0

-- one state more was looked at: it stands in the list now if its number isn't 0
pub record IsLookedAt (labels numbers : List ℕ) (s : ℕ) (old new : List Touched) : Type 0 where
  pub each : All (IsTouched labels numbers) old → All (IsTouched labels numbers) new
  pub some : All (λ (t : Touched). slice_index_or numbers t.state 0 ≢ 0) old → All (λ (t : Touched). slice_index_or numbers t.state 0 ≢ 0) new
  pub kept : (t : ℕ) → StandsIn old t → StandsIn new t
  pub here : s < length labels → slice_index_or numbers s 0 ≢ 0 → StandsIn new s

-- these states were looked at
pub record AreLookedAt (labels numbers visited : List ℕ) (touched : List Touched) : Type 0 where
  pub each : All (IsTouched labels numbers) touched
  pub some : All (λ (t : Touched). slice_index_or numbers t.state 0 ≢ 0) touched
  pub all : (k : ℕ) → k < length visited → slice_index_or visited k 0 < length labels → slice_index_or numbers (slice_index_or visited k 0) 0 ≢ 0 → StandsIn touched (slice_index_or visited k 0)
