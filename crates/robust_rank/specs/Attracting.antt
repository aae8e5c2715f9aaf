-- Stages of ranks, stage by stage: what holds once the stages up to one are complete, and what the next one has to find.
use Rattle.std.specs.Prelude.{◌≡◌, ℕ, suc, ◌<◌, ◌≤◌, ◌⊎◌, Bool, true, false, ℤ, length, slice_index_or}
use Rattle.lift_grid.specs.Rectangle.{Spans}
use Rattle.lift_model.specs.Model.{is_goal, choices, row_at}
use Rattle.corner_lift.specs.Corner.{no_entry}
use Rattle.corner_lift.specs.Case.{CaseData, IsCase, IsInside}
use Rattle.corner_lift.specs.Certificate.{unmarked}
use Rattle.corner_lift.specs.Stages.{IsAllowed, LeadsBelow, IsChosen, AreStages}

-- the stages up to r are complete
pub record IsStaged (k : CaseData) (spans : Spans) (allowed : ℕ → ℕ → Type 0) (rank : ℕ → ℕ) (r : ℕ) : Type 0 where
  pub goal : (s : ℕ) → is_goal k.model s ≡ true → rank s ≡ 0
  pub later : (s : ℕ) → is_goal k.model s ≡ false → 1 ≤ rank s
  pub marks : (s : ℕ) → rank s < unmarked → rank s ≤ r
  pub reached : (s : ℕ) → is_goal k.model s ≡ false → rank s < unmarked → (a : ℕ) × ((a < length (choices k.model s)) × (allowed s a × LeadsBelow k spans rank (rank s) s a))
  pub first : (s : ℕ) → is_goal k.model s ≡ false → (a q : ℕ) → a < length (choices k.model s) → allowed s a → q ≤ r → LeadsBelow k spans rank q s a → rank s ≤ q

-- Stage r + 1: ranks stay, what is new leads into the stages up to r, and whatever has a choice with an entry into rank r, and stays without rank, was looked at.
pub record IsNextStage (k : CaseData) (spans : Spans) (allowed : ℕ → ℕ → Type 0) (rank new : ℕ → ℕ) (r : ℕ) : Type 0 where
  pub kept : (s : ℕ) → rank s < unmarked → new s ≡ rank s
  pub added : (s : ℕ) → is_goal k.model s ≡ false → unmarked ≤ rank s → (unmarked ≤ new s) ⊎ ((new s ≡ suc r) × ((a : ℕ) × ((a < length (choices k.model s)) × (allowed s a × LeadsBelow k spans rank (suc r) s a))))
  pub complete : (s : ℕ) → is_goal k.model s ≡ false → unmarked ≤ new s → (a : ℕ) → a < length (choices k.model s) → allowed s a
      → (i : ℕ) × ((i < length (row_at k.model s a)) × (rank (slice_index_or (row_at k.model s a) i no_entry).target ≡ r))
      → LeadsBelow k spans rank (suc r) s a → ⊥

-- the choices that pass a test
abbrev pub Pass : (ℕ → ℕ → Bool) → ℕ → ℕ → Type 0
Pass test s a = test s a ≡ true

-- rank 0 on goal states, and none elsewhere
abbrev pub StartIsStaged : Type 0
StartIsStaged = (k : CaseData) (spans : Spans) (test : ℕ → ℕ → Bool) (rank : ℕ → ℕ) → IsCase k → IsInside k.root spans
    → ((s : ℕ) → is_goal k.model s ≡ true → rank s ≡ 0) → ((s : ℕ) → is_goal k.model s ≡ false → rank s ≡ unmarked)
    → IsStaged k spans (Pass test) rank 0

-- after some stages, the next stage is added
abbrev pub NextIsStaged : Type 0
NextIsStaged = (k : CaseData) (spans : Spans) (test : ℕ → ℕ → Bool) (rank new : ℕ → ℕ) (r : ℕ) → suc r < unmarked
    → IsStaged k spans (Pass test) rank r → IsNextStage k spans (Pass test) rank new r → IsStaged k spans (Pass test) new (suc r)

-- after an empty stage, with the least choices, these are the stages
abbrev pub EmptyStageEnds : Type 0
EmptyStageEnds = (k : CaseData) (spans : Spans) (test : ℕ → ℕ → Bool) (pick rank : ℕ → ℕ) (r : ℕ) → IsCase k → IsInside k.root spans → r < unmarked
    → IsStaged k spans (Pass test) rank r → ((s : ℕ) → rank s ≡ r → ⊥)
    → ((s : ℕ) → is_goal k.model s ≡ false → rank s < unmarked → IsChosen k spans (Pass test) pick rank s)
    → AreStages k spans (Pass test) pick rank

-- stages of the choices that a test passes are those of the allowed choices, where it passes just these
abbrev pub StagesOfTest : Type 0
StagesOfTest = (k : CaseData) (spans : Spans) (test : ℕ → ℕ → Bool) (y : ℕ → ℤ) (pick rank : ℕ → ℕ)
    → ((s : ℕ) → is_goal k.model s ≡ false → (a : ℕ) → a < length (choices k.model s) → (Pass test s a → IsAllowed k spans y s a) × (IsAllowed k spans y s a → Pass test s a))
    → AreStages k spans (Pass test) pick rank → AreStages k spans (IsAllowed k spans y) pick rank

-- A choice that leads below r + 1 has an entry into rank r, or leads below r already: so a stage need only look at the states before those that the last stage added.
abbrev pub FrontierLeads : Type 0
FrontierLeads = (k : CaseData) (spans : Spans) (rank : ℕ → ℕ) (r s a : ℕ) → LeadsBelow k spans rank (suc r) s a
    → ((i : ℕ) × ((i < length (row_at k.model s a)) × (rank (slice_index_or (row_at k.model s a) i no_entry).target ≡ r))) ⊎ LeadsBelow k spans rank r s a

-- where no rank is from r to q, what leads below q leads below r: so an empty stage is the last
abbrev pub GapLeads : Type 0
GapLeads = (k : CaseData) (spans : Spans) (rank : ℕ → ℕ) (r q s a : ℕ) → ((t : ℕ) → rank t < q → rank t < r) → IsCase k → IsInside k.root spans → a < length (choices k.model s)
    → LeadsBelow k spans rank q s a → LeadsBelow k spans rank r s a
