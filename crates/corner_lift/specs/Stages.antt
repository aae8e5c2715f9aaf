-- Stages of ranks: the goal states first, and then whatever has an allowed choice that leads, at every corner and with positive weight, into the stages before. What one stage adds doesn't see what else that stage adds.
use Rattle.std.specs.Prelude.{◌≡◌, ℕ, ◌<◌, ◌≤◌, true, false, ℤ, pos, ◌≤ℤ◌, ◌<ℤ◌, length}
use Rattle.lift_grid.specs.Rectangle.{Spans}
use Rattle.lift_grid.specs.Tree.{RejectData}
use Rattle.lift_model.specs.Model.{is_goal, choices, row_at}
use Rattle.corner_lift.specs.Corner.{AtCorners, corner_sum}
use Rattle.corner_lift.specs.Case.{CaseData, number}
use Rattle.corner_lift.specs.Certificate.{unmarked, ranked_below, mark, MeansAtLeast, IsLower, IsRate}

-- at every corner of the choice the weighted mean of y is at least the state's number
abbrev pub IsAllowed : CaseData → Spans → (ℕ → ℤ) → ℕ → ℕ → Type 0
IsAllowed k spans y s a = MeansAtLeast k spans (row_at k.model s a) y (y s)

-- at every corner the choice leads with positive weight into states whose rank is below r
abbrev pub LeadsBelow : CaseData → Spans → (ℕ → ℕ) → ℕ → ℕ → ℕ → Type 0
LeadsBelow k spans rank r s a = let row = row_at k.model s a in AtCorners spans row (λ c. pos 0 <ℤ corner_sum k.d spans row c (ranked_below rank r))

-- a state's chosen row is the least allowed choice that leads into the stages before the state's rank
pub record IsChosen (k : CaseData) (spans : Spans) (allowed : ℕ → ℕ → Type 0) (pick rank : ℕ → ℕ) (s : ℕ) : Type 0 where
  pub later : 1 ≤ rank s
  pub in_range : pick s < length (choices k.model s)
  pub is_allowed : allowed s (pick s)
  pub leads : LeadsBelow k spans rank (rank s) s (pick s)
  pub least : (a : ℕ) → a < pick s → allowed s a → LeadsBelow k spans rank (rank s) s a → ⊥

-- ranks and choices by stages: rank 0 on goal states, and elsewhere the number of the first stage that has the state
pub record AreStages (k : CaseData) (spans : Spans) (allowed : ℕ → ℕ → Type 0) (pick rank : ℕ → ℕ) : Type 0 where
  pub goal : (s : ℕ) → is_goal k.model s ≡ true → rank s ≡ 0
  pub chosen : (s : ℕ) → is_goal k.model s ≡ false → rank s < unmarked → IsChosen k spans allowed pick rank s
  -- no allowed choice leads into the stages before sooner
  pub first : (s : ℕ) → is_goal k.model s ≡ false → (a r : ℕ) → a < length (choices k.model s) → allowed s a → r < unmarked → LeadsBelow k spans rank r s a → rank s ≤ r

-- every lower vector is at most z
abbrev pub IsAboveLower : CaseData → Spans → (ℕ → ℤ) → Type 0
IsAboveLower k spans z = (r : RejectData) → IsLower k spans r → (s : ℕ) → number r.numbers s ≤ℤ z s

-- the lower vector that is greatest at each state, with the ranks and choices of its stages, and the least e and k that these allow
pub record IsGreatestLower (k : CaseData) (spans : Spans) (r : RejectData) : Type 0 where
  pub holds : IsLower k spans r
  pub greatest : IsAboveLower k spans (number r.numbers)
  pub stages : AreStages k spans (IsAllowed k spans (number r.numbers)) (mark r.picks) (mark r.ranks)
  pub least_rate : (e : ℕ) → ((s : ℕ) → is_goal k.model s ≡ false → mark r.ranks s < unmarked → IsRate k spans r e s) → r.e ≤ e
  pub least_height : (j : ℕ) → 1 ≤ j → ((s : ℕ) → mark r.ranks s < unmarked → mark r.ranks s ≤ j) → r.k ≤ j
