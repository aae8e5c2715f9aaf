-- Ranks and choices as they are found: by a queue of states in the order of their ranks, whose last part holds the last stage.
use Rattle.std.specs.Prelude.{◌≡◌, ℕ, suc, ◌<◌, ◌≤◌, ◌⊎◌, Bool, true, false, List, ℤ, length, count_by, slice_index_or, nat_lt}
use Rattle.lift_grid.specs.Rectangle.{Spans}
use Rattle.lift_model.specs.Model.{ModelData, is_goal, choices, row_count}
use Rattle.lift_model.specs.Links.{LinksData, AreLinks, row_number}
use Rattle.corner_lift.specs.Case.{CaseData}
use Rattle.corner_lift.specs.Certificate.{unmarked, mark}
use Rattle.corner_lift.specs.Stages.{LeadsBelow}
use Rattle.corner_lift.specs.Table.{IsTable}
use Rattle.robust_rank.specs.Attracting.{Pass, IsStaged}
use Rattle.robust_rank.specs.declared.rows.Choices.{Choices}

-- of numbers that there is one of for each row, in reading order, the one of the state's choice isn't 0
abbrev pub allows : ModelData → List ℕ → ℕ → ℕ → Bool
allows m allowed s a = nat_lt 0 (slice_index_or allowed (row_number m s a) 0)

-- the links are those of the case's model, the weights are the table of a rectangle, and there is a number for each row
pub record CanRank (k : CaseData) (l : LinksData) (spans : Spans) (weights : List ℤ) (allowed : List ℕ) : Type 0 where
  pub links : AreLinks k.model l
  pub table : IsTable k l spans weights
  pub rows : length allowed ≡ row_count k.model

-- the same of choices that are handed on together
abbrev pub CanRankBy : Choices → Spans → Type 0
CanRankBy c spans = CanRank c.rows.case.now c.rows.links.now spans c.rows.weights.now c.allowed.now

-- the state's choice is allowed, and leads below r
abbrev pub IsLeading : CaseData → Spans → List ℕ → (ℕ → ℕ) → ℕ → ℕ → ℕ → Type 0
IsLeading k spans allowed rank r s a = Pass (allows k.model allowed) s a × LeadsBelow k spans rank r s a

-- it is the least that is and does
pub record IsLeastLeading (k : CaseData) (spans : Spans) (allowed : List ℕ) (rank : ℕ → ℕ) (r s a : ℕ) : Type 0 where
  pub in_range : a < length (choices k.model s)
  pub holds : IsLeading k spans allowed rank r s a
  pub least : (b : ℕ) → b < a → IsLeading k spans allowed rank r s b → ⊥

-- none of the state's choices is and does
abbrev pub HasNoLeading : CaseData → Spans → List ℕ → (ℕ → ℕ) → ℕ → ℕ → Type 0
HasNoLeading k spans allowed rank r s = (a : ℕ) → a < length (choices k.model s) → IsLeading k spans allowed rank r s a → ⊥

-- one of the state's choices is and does
abbrev pub HasLeading : CaseData → Spans → List ℕ → (ℕ → ℕ) → ℕ → ℕ → Type 0
HasLeading k spans allowed rank r s = (a : ℕ) × ((a < length (choices k.model s)) × IsLeading k spans allowed rank r s a)

-- so it is below the state's rank, where the state has one and is no goal state
abbrev pub IsReached : CaseData → Spans → List ℕ → List ℕ → ℕ → Type 0
IsReached k spans allowed ranks s = is_goal k.model s ≡ false → mark ranks s < unmarked → HasLeading k spans allowed (mark ranks) (mark ranks s) s

-- the state's chosen row: the least that is and does where the state has a rank and is no goal state, and else none
pub record IsChoiceOf (k : CaseData) (spans : Spans) (allowed ranks : List ℕ) (s pick : ℕ) : Type 0 where
  pub chosen : is_goal k.model s ≡ false → mark ranks s < unmarked → IsLeastLeading k spans allowed (mark ranks) (mark ranks s) s pick
  pub none : (is_goal k.model s ≡ true) ⊎ (unmarked ≤ mark ranks s) → pick ≡ unmarked

-- goal states and those without rank have no chosen row
abbrev pub OthersHaveNoChoice : CaseData → List ℕ → List ℕ → Type 0
OthersHaveNoChoice k picks ranks = (s : ℕ) → (is_goal k.model s ≡ true) ⊎ (unmarked ≤ mark ranks s) → mark picks s ≡ unmarked

-- ---- while stages are found

-- whether it is a rank
abbrev pub is_rank : ℕ → Bool
is_rank rank = nat_lt rank unmarked

-- the queue holds that state at some place of this part
abbrev pub IsQueuedIn : List ℕ → ℕ → ℕ → ℕ → Type 0
IsQueuedIn queue from to s = (i : ℕ) × ((from ≤ i) × (i < to) × (mark queue i ≡ s))

-- the stages up to r are complete, all ranked states are in the queue, and those of rank r are in its last part
pub record IsComplete (k : CaseData) (spans : Spans) (allowed ranks queue : List ℕ) (r from to : ℕ) : Type 0 where
  pub sizes : (length ranks ≡ length k.model.states) × (length queue ≡ length k.model.states)
  pub staged : IsStaged k spans (Pass (allows k.model allowed)) (mark ranks) r
  pub count : to ≡ count_by is_rank ranks
  pub part : (r ≤ from) × (from ≤ to)
  pub states : (i : ℕ) → i < to → mark queue i < length k.model.states
  pub last : (s : ℕ) → mark ranks s ≡ r → IsQueuedIn queue from to s

-- the first states, so many, have rank 0 and are in the queue if they are goal states, and no other has a rank
pub record IsStarting (k : CaseData) (ranks queue : List ℕ) (first found : ℕ) : Type 0 where
  pub sizes : (length ranks ≡ length k.model.states) × (length queue ≡ length k.model.states)
  pub count : found ≡ count_by is_rank ranks
  pub goals : (s : ℕ) → s < first → is_goal k.model s ≡ true → (mark ranks s ≡ 0) × IsQueuedIn queue 0 found s
  pub others : (s : ℕ) → (s < first → is_goal k.model s ≡ false) → mark ranks s ≡ unmarked
  pub states : (i : ℕ) → i < found → mark queue i < length k.model.states

-- what the search for stage r + 1 began with
pub record StageData : Type 0 where
  pub spans : Spans
  pub ranks : List ℕ
  pub queue : List ℕ
  pub to : ℕ

-- the state has been given rank r + 1 since then, for a choice that leads below it
pub record IsAdded (k : CaseData) (allowed : List ℕ) (start : StageData) (ranks : List ℕ) (r s : ℕ) : Type 0 where
  pub was : unmarked ≤ mark start.ranks s
  pub now : mark ranks s ≡ suc r
  pub choice : ℕ
  pub in_range : choice < length (choices k.model s)
  pub leads : IsLeading k start.spans allowed (mark start.ranks) (suc r) s choice

-- on the way to stage r + 1
pub record IsGathering (k : CaseData) (allowed : List ℕ) (start : StageData) (r found : ℕ) (ranks queue : List ℕ) : Type 0 where
  pub sizes : (length ranks ≡ length k.model.states) × (length queue ≡ length k.model.states)
  pub small : suc r < unmarked
  pub count : found ≡ count_by is_rank ranks
  pub from : start.to ≤ found
  pub states : (i : ℕ) → i < found → mark queue i < length k.model.states
  pub kept : (i : ℕ) → i < start.to → mark queue i ≡ mark start.queue i
  pub grown : (s : ℕ) → (mark ranks s ≡ mark start.ranks s) ⊎ IsAdded k allowed start ranks r s
  pub queued : (s : ℕ) → mark ranks s ≡ suc r → IsQueuedIn queue start.to found s

-- no ranked state loses its rank
abbrev pub AreKept : List ℕ → List ℕ → Type 0
AreKept old new = (s : ℕ) → mark old s < unmarked → mark new s ≡ mark old s

-- the state has a rank, or no choice for one at this stage
abbrev pub IsLooked : CaseData → List ℕ → StageData → ℕ → List ℕ → ℕ → Type 0
IsLooked k allowed start r ranks s = unmarked ≤ mark ranks s → HasNoLeading k start.spans allowed (mark start.ranks) (suc r) s
