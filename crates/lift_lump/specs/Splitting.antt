-- What the labels and the lists of the states that have them keep while blocks are split.
use Rattle.std.specs.Prelude.{◌⊎◌, ◌≡◌, ◌≢◌, ℕ, ◌+◌, ◌<◌, ◌≤◌, ◌==◌, Bool, false, Option, Some, None, List, [], length, count_by, slice_index_or, All, Contains, if◌then◌else◌}
use Rattle.std.specs.List.Sorted.{IsStrictlyIncreasing}
use Rattle.lift_poly.specs.Polynomial.{Valuation}
use Rattle.lift_model.specs.Model.{ModelData, is_goal}
use Rattle.lift_model.specs.Valid.{IsModel}
use Rattle.lift_lump.specs.Lumping.{Partition, IsAboveRight}
use Rattle.lift_lump.specs.declared.arrows.Arrow.{Arrow}
use Rattle.lift_lump.specs.declared.touch.Touched.{Touched}
use Rattle.lift_lump.specs.Search.{number_at, marked, AreArrows, IsByNumber}
use Rattle.lift_lump.specs.Renaming.{IsTouched, StandsIn, AreTouched, AreAllTouched, state_at}

-- the list of a label
abbrev pub list_of : List (List ℕ) → ℕ → List ℕ
list_of members l = slice_index_or members l []

-- how many states have a label
abbrev pub how_many : List ℕ → ℕ → ℕ
how_many labels l = count_by (λ k. k == l) labels

-- each label has a list and a size, which is how many states have it, and only states stand in the lists
pub record AreInside (labels sizes : List ℕ) (members : List (List ℕ)) : Type 0 where
  pub size : length sizes ≡ length members
  pub counted : (l : ℕ) → number_at sizes l ≡ how_many labels l
  pub below : All (λ l. l < length members) labels
  pub states : All (All (λ s. s < length labels)) members

-- Of so many labels each but perhaps one is that of a state. So there is at most one more than there are states.
pub record AreUsed (labels : List ℕ) (count : ℕ) : Type 0 where
  pub spare : ℕ
  pub used : (l : ℕ) → l < count → l ≢ spare → Contains labels l

-- there is at most one label more than there are states
abbrev pub AreFew : List ℕ → ℕ → Type 0
AreFew labels count = count ≤ length labels + 1

-- each state stands in the list of its label, or among the touched ones
abbrev pub AreListedBut : List Touched → List ℕ → List (List ℕ) → Type 0
AreListedBut touched labels members = (s : ℕ) → s < length labels → Contains (list_of members (number_at labels s)) s ⊎ StandsIn touched s

-- each state stands in the list of its label
abbrev pub AreListed : List ℕ → List (List ℕ) → Type 0
AreListed labels members = (s : ℕ) → s < length labels → Contains (list_of members (number_at labels s)) s

-- the touched states, and where all of a block are such its list may be gone
pub record AreGathered (labels numbers : List ℕ) (members : List (List ℕ)) (list : List Touched) : Type 0 where
  pub touched : AreTouched labels numbers list
  pub some : AreAllTouched labels numbers list
  pub listed : AreListedBut list labels members

-- those of these states that are of the block, with number 0, are touched now
pub record AreAdded (labels numbers : List ℕ) (b : ℕ) (states : List ℕ) (old new : List Touched) : Type 0 where
  pub each : All (IsTouched labels numbers) old → All (IsTouched labels numbers) new
  pub kept : (t : ℕ) → StandsIn old t → StandsIn new t
  pub only : (t : ℕ) → StandsIn new t → StandsIn old t ⊎ ((number_at labels t ≡ b) × (number_at numbers t ≡ 0))
  pub all : (t : ℕ) → Contains states t → number_at labels t ≡ b → number_at numbers t ≡ 0 → StandsIn new t

-- a state with that label isn't touched
pub record IsLeft (labels : List ℕ) (touched : List Touched) (l : ℕ) : Type 0 where
  pub state : ℕ
  pub inside : state < length labels
  pub label : number_at labels state ≡ l
  pub untouched : StandsIn touched state → ⊥

-- where a state is touched and the list of its label is there, some state with that label isn't, so the label stays in use
abbrev pub HaveRest : List ℕ → List (List ℕ) → List Touched → Type 0
HaveRest labels members touched = (s : ℕ) → StandsIn touched s → (list_of members (number_at labels s) ≡ []) ⊎ IsLeft labels touched (number_at labels s)

-- where a state has another number than 0, a state of its label has the number 0
abbrev pub HaveNone : List ℕ → List ℕ → Type 0
HaveNone labels numbers = (s : ℕ) → s < length labels → number_at numbers s ≢ 0 → (u : ℕ) × (u < length labels) × (number_at labels u ≡ number_at labels s) × (number_at numbers u ≡ 0)

-- some states are touched, and the list of the first one's block is there
pub record IsBegun (touched : List Touched) (labels : List ℕ) (members : List (List ℕ)) : Type 0 where
  pub some : 0 < length touched
  pub listed : 0 < length (list_of members (number_at labels (state_at touched 0)))

-- ---- one split

-- between splits no state has a number or a mark
pub record AreClear (states : ℕ) (numbers : List ℕ) (marks : List Bool) : Type 0 where
  pub sizes : (length numbers ≡ states) × (length marks ≡ states)
  pub zero : (s : ℕ) → number_at numbers s ≡ 0
  pub unmarked : (s : ℕ) → marked marks s ≡ false

-- a partition as the labels of its states
abbrev pub labelled : List ℕ → Partition
labelled labels s = number_at labels s

-- whatever chain the arrows stand for: what tells states of a block apart by these numbers alone keeps what every right partition refines
abbrev pub AreTelling : (ℕ → List Arrow) → List ℕ → List ℕ → Type 0
AreTelling into labels numbers = (m : ModelData) (v : Valuation) (new : Partition) → IsModel m → length m.states ≡ length labels → AreArrows m v into
    → IsAboveRight m (labelled labels) → IsByNumber (length m.states) (labelled labels) numbers new → IsAboveRight m new

-- whatever chain the arrows stand for: where every right partition refines the old labels it refines the new ones
abbrev pub IsKeptAbove : (ℕ → List Arrow) → List ℕ → List ℕ → Type 0
IsKeptAbove into old new = (m : ModelData) (v : Valuation) → IsModel m → length m.states ≡ length old → AreArrows m v into → IsAboveRight m (labelled old) → IsAboveRight m (labelled new)

-- ---- numbering

-- The first states, so many, have blocks that are numbered by their least states, and names has the block of each label that one of them has.
pub record AreNumberedSo (labels : List ℕ) (count : ℕ) (names : List (Option ℕ)) (of_states firsts : List ℕ) : Type 0 where
  pub size : length of_states ≡ count
  pub few : length firsts ≤ count
  pub named : (l b : ℕ) → slice_index_or names l None ≡ Some b → (b < length firsts) × (number_at labels (number_at firsts b) ≡ l)
  pub known : (s : ℕ) → s < count → slice_index_or names (number_at labels s) None ≡ Some (number_at of_states s)
  pub least : (b : ℕ) → b < length firsts → (number_at firsts b < count) × (number_at of_states (number_at firsts b) ≡ b)
  pub inside : (s : ℕ) → s < count → (number_at of_states s < length firsts) × (number_at firsts (number_at of_states s) ≤ s)
  pub ascending : IsStrictlyIncreasing firsts

-- states are in one block exactly where they have one label
pub record AreSameBlocks (labels of_states : List ℕ) : Type 0 where
  pub together : (s t : ℕ) → s < length labels → t < length labels → number_at labels s ≡ number_at labels t → number_at of_states s ≡ number_at of_states t
  pub apart : (s t : ℕ) → s < length labels → t < length labels → number_at of_states s ≡ number_at of_states t → number_at labels s ≡ number_at labels t

-- goal states have the label 1, and the others 0
pub record AreFirstLabels (m : ModelData) (list : List ℕ) : Type 0 where
  pub count : length list ≡ length m.states
  pub labels : (s : ℕ) → s < length m.states → number_at list s ≡ (if is_goal m s then 1 else 0)
