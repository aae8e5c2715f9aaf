-- The least upper vector for one scheduler, and the lowest choices that meet it.
use Rattle.std.specs.Prelude.{◌≡◌, ℕ, ◌<◌, ◌^◌, Bool, true, false, List, ℤ, pos, ◌≤ℤ◌, ◌<ℤ◌, length}
use Rattle.lift_grid.specs.Rectangle.{Spans}
use Rattle.lift_model.specs.Model.{is_goal, choices, row_at}
use Rattle.corner_lift.specs.Case.{CaseData, number}
use Rattle.corner_lift.specs.Certificate.{AtMost, MeansAtMost, unmarked, mark}
use Rattle.lift_dual.specs.Sides.{IsUpperOne}

-- the choice meets the state's number: that is at least its weighted mean at each corner
abbrev pub IsSatisfied : CaseData → Spans → List ℤ → ℕ → ℕ → Type 0
IsSatisfied k spans x s a = MeansAtMost k spans (row_at k.model s a) x (number x s)

-- some choice does
abbrev pub HasSatisfied : CaseData → Spans → List ℤ → ℕ → Type 0
HasSatisfied k spans x s = (a : ℕ) × ((a < length (choices k.model s)) × IsSatisfied k spans x s a)

-- the lowest choice that does
pub record IsLowestSatisfied (k : CaseData) (spans : Spans) (x : List ℤ) (s a : ℕ) : Type 0 where
  pub in_range : a < length (choices k.model s)
  pub holds : IsSatisfied k spans x s a
  pub least : (b : ℕ) → b < a → IsSatisfied k spans x s b → ⊥

-- the chosen row of a state: the lowest choice that meets its number, and none where it is a goal state
pub record IsLowestChoice (k : CaseData) (spans : Spans) (x : List ℤ) (s pick : ℕ) : Type 0 where
  pub chosen : is_goal k.model s ≡ false → IsLowestSatisfied k spans x s pick
  pub none : is_goal k.model s ≡ true → pick ≡ unmarked

-- each state has its chosen row
pub record AreLowestChoices (k : CaseData) (spans : Spans) (x : List ℤ) (picks : List ℕ) : Type 0 where
  pub size : length picks ≡ length k.model.states
  pub each : (s : ℕ) → s < length k.model.states → IsLowestChoice k spans x s (mark picks s)

-- the upper vector for one scheduler that is least at each state, with the lowest choices
pub record IsLeastUpperOne (k : CaseData) (spans : Spans) (x : List ℤ) (picks : List ℕ) : Type 0 where
  pub upper : IsUpperOne k spans x picks
  pub least : (y : List ℤ) (others : List ℕ) → IsUpperOne k spans y others → AtMost x y
  pub lowest : AreLowestChoices k spans x picks

-- That vector, where the initial state's number in it is within the limit; else that number is above the limit in every upper vector for one scheduler. No number is above 2 ^ w.
pub record IsLeastUpperOneWithin (k : CaseData) (spans : Spans) (limit : ℤ) (x : List ℤ) (picks : List ℕ) (within : Bool) : Type 0 where
  pub least : within ≡ true → IsLeastUpperOne k spans x picks
  pub first : within ≡ true → number x k.model.init ≤ℤ limit
  pub past : within ≡ false → (y : List ℤ) (others : List ℕ) → IsUpperOne k spans y others → limit <ℤ number y k.model.init
  pub always : pos (2 ^ k.w) ≤ℤ limit → within ≡ true
