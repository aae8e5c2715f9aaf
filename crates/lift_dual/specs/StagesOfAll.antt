-- Stages of ranks over every choice, stage by stage: what holds once the stages up to one are complete, and what the next one has to find.
use Rattle.std.specs.Prelude.{◌≡◌, ℕ, suc, ◌<◌, ◌≤◌, ◌⊎◌, true, false, length, slice_index_or}
use Rattle.lift_grid.specs.Rectangle.{Spans}
use Rattle.lift_model.specs.Model.{is_goal, choices, row_at}
use Rattle.corner_lift.specs.Corner.{no_entry}
use Rattle.corner_lift.specs.Case.{CaseData, IsCase, IsInside}
use Rattle.corner_lift.specs.Certificate.{unmarked}
use Rattle.lift_dual.specs.Avoiding.{AllLeadBelow, AreStagesOfAll}

-- some choice of the state has an entry into a state of rank r
abbrev pub HasEntryInto : CaseData → (ℕ → ℕ) → ℕ → ℕ → Type 0
HasEntryInto k rank r s = (a : ℕ) × ((a < length (choices k.model s)) × ((i : ℕ) × ((i < length (row_at k.model s a)) × (rank (slice_index_or (row_at k.model s a) i no_entry).target ≡ r))))

-- the stages up to r are complete
pub record IsStagedOfAll (k : CaseData) (spans : Spans) (rank : ℕ → ℕ) (r : ℕ) : Type 0 where
  pub goal : (s : ℕ) → is_goal k.model s ≡ true → rank s ≡ 0
  pub later : (s : ℕ) → is_goal k.model s ≡ false → 1 ≤ rank s
  pub marks : (s : ℕ) → rank s < unmarked → rank s ≤ r
  pub reached : (s : ℕ) → is_goal k.model s ≡ false → rank s < unmarked → AllLeadBelow k spans rank (rank s) s
  pub first : (s : ℕ) → s < length k.model.states → is_goal k.model s ≡ false → (q : ℕ) → q ≤ r → AllLeadBelow k spans rank q s → rank s ≤ q

-- Stage r + 1: ranks stay, of what is new each choice leads into the stages up to r, and what has an entry into rank r, and stays without rank, was looked at.
pub record IsNextOfAll (k : CaseData) (spans : Spans) (rank new : ℕ → ℕ) (r : ℕ) : Type 0 where
  pub kept : (s : ℕ) → rank s < unmarked → new s ≡ rank s
  pub added : (s : ℕ) → is_goal k.model s ≡ false → unmarked ≤ rank s → (unmarked ≤ new s) ⊎ ((new s ≡ suc r) × AllLeadBelow k spans rank (suc r) s)
  pub complete : (s : ℕ) → s < length k.model.states → is_goal k.model s ≡ false → unmarked ≤ new s → HasEntryInto k rank r s → AllLeadBelow k spans rank (suc r) s → ⊥

-- rank 0 on goal states, and none elsewhere: some corner of some choice leads to no state of rank below 0
abbrev pub StartOfAll : Type 0
StartOfAll = (k : CaseData) (spans : Spans) (rank : ℕ → ℕ) → IsCase k → IsInside k.root spans
    → ((s : ℕ) → is_goal k.model s ≡ true → rank s ≡ 0) → ((s : ℕ) → is_goal k.model s ≡ false → rank s ≡ unmarked)
    → IsStagedOfAll k spans rank 0

-- after some stages, the next stage is added
abbrev pub NextOfAll : Type 0
NextOfAll = (k : CaseData) (spans : Spans) (rank new : ℕ → ℕ) (r : ℕ) → suc r < unmarked → IsStagedOfAll k spans rank r → IsNextOfAll k spans rank new r → IsStagedOfAll k spans new (suc r)

-- after an empty stage these are the stages
abbrev pub EndOfAll : Type 0
EndOfAll = (k : CaseData) (spans : Spans) (rank : ℕ → ℕ) (r : ℕ) → IsCase k → IsInside k.root spans → IsStagedOfAll k spans rank r → ((s : ℕ) → rank s ≡ r → ⊥) → AreStagesOfAll k spans rank
