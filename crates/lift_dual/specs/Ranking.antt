-- Ranks over every choice as they are found: by a queue of states in the order of their ranks, whose last part holds the last stage.
use Rattle.std.specs.Prelude.{◌≡◌, ℕ, suc, ◌<◌, ◌≤◌, ◌⊎◌, false, List, ℤ, length, count_by}
use Rattle.lift_grid.specs.Rectangle.{Spans}
use Rattle.lift_model.specs.Model.{is_goal}
use Rattle.corner_lift.specs.Case.{CaseData}
use Rattle.corner_lift.specs.Certificate.{unmarked, mark}
use Rattle.robust_rank.specs.Staging.{is_rank, IsQueuedIn, StageData}
use Rattle.lift_dual.specs.Avoiding.{AllLeadBelow}
use Rattle.lift_dual.specs.StagesOfAll.{IsStagedOfAll}

-- one rank and one place of the queue for each state
abbrev pub HasPlaces : CaseData → List ℕ → List ℕ → Type 0
HasPlaces k ranks queue = (length ranks ≡ length k.model.states) × (length queue ≡ length k.model.states)

-- the stages up to r are complete, all ranked states are in the queue, and those of rank r are in its last part
pub record IsCompleteOfAll (k : CaseData) (spans : Spans) (ranks queue : List ℕ) (r from to : ℕ) : Type 0 where
  pub sizes : HasPlaces k ranks queue
  pub staged : IsStagedOfAll k spans (mark ranks) r
  pub count : to ≡ count_by is_rank ranks
  pub part : (r ≤ from) × (from ≤ to)
  pub states : (i : ℕ) → i < to → mark queue i < length k.model.states
  pub last : (s : ℕ) → mark ranks s ≡ r → IsQueuedIn queue from to s

-- each choice of the state led into the stages up to r when the search for stage r + 1 began
abbrev pub HasLed : CaseData → StageData → ℕ → ℕ → Type 0
HasLed k start r s = AllLeadBelow k start.spans (mark start.ranks) (suc r) s

-- so the state has been given rank r + 1 since then
pub record IsAddedOfAll (k : CaseData) (start : StageData) (ranks : List ℕ) (r s : ℕ) : Type 0 where
  pub was : unmarked ≤ mark start.ranks s
  pub now : mark ranks s ≡ suc r
  pub led : HasLed k start r s

-- on the way to stage r + 1
pub record IsGatheringOfAll (k : CaseData) (start : StageData) (r found : ℕ) (ranks queue : List ℕ) : Type 0 where
  pub sizes : HasPlaces k ranks queue
  pub small : suc r < unmarked
  pub count : found ≡ count_by is_rank ranks
  pub from : start.to ≤ found
  pub states : (i : ℕ) → i < found → mark queue i < length k.model.states
  pub kept : (i : ℕ) → i < start.to → mark queue i ≡ mark start.queue i
  pub grown : (s : ℕ) → (mark ranks s ≡ mark start.ranks s) ⊎ IsAddedOfAll k start ranks r s
  pub queued : (s : ℕ) → mark ranks s ≡ suc r → IsQueuedIn queue start.to found s

-- the state has a rank, or none at this stage
abbrev pub IsLookedOfAll : CaseData → StageData → ℕ → List ℕ → ℕ → Type 0
IsLookedOfAll k start r ranks s = unmarked ≤ mark ranks s → HasLed k start r s → ⊥

-- what the search for a stage begins with
pub record IsBegun (k : CaseData) (start : StageData) (ranks queue : List ℕ) (r from to : ℕ) : Type 0 where
  pub same_ranks : start.ranks ≡ ranks
  pub same_queue : start.queue ≡ queue
  pub same_end : start.to ≡ to
  pub complete : IsCompleteOfAll k start.spans start.ranks start.queue r from start.to
  pub some : from < to
