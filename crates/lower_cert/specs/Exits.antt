-- Lowering a set of marked states that all have the same number to the greatest number at which a choice holds the set.
use Rattle.std.specs.Prelude.{◌≡◌, ℕ, ◌^◌, ◌<◌, ◌≤◌, ◌⊎◌, true, List, ℤ, pos, ◌+ℤ◌, ◌≤ℤ◌, ◌<ℤ◌, length}
use Rattle.lift_grid.specs.Rectangle.{Spans}
use Rattle.lift_model.specs.Model.{choices, row_at}
use Rattle.corner_lift.specs.Case.{CaseData, number}
use Rattle.corner_lift.specs.Certificate.{unmarked, mark}
use Rattle.lower_cert.specs.Capping.{AtSomeCorner, CapsAt, marked, IsLevel}
use Rattle.corner_lift.specs.Lifted.{LiftedData, IsLiftedTo}
use Rattle.lower_cert.specs.Lowering.{IsHigh}

-- the marked states have the number m, and no rank
abbrev pub AreLevel : List ℕ → List ℤ → List ℕ → ℤ → Type 0
AreLevel marks x ranks m = (t : ℕ) → marked marks t ≡ true → (unmarked ≤ mark ranks t) × (number x t ≡ m)

-- what it needs to find how high a set of marked states that all have the number m is held
pub record CanExit (t : LiftedData) (spans : Spans) (x : List ℤ) (marks : List ℕ) (m : ℤ) : Type 0 where
  pub table : IsLiftedTo t spans
  pub high : IsHigh t.case spans x
  pub size : length marks ≡ length t.case.model.states
  pub level : IsLevel marks x m
  pub range : (pos 0 ≤ℤ m) × (m ≤ℤ pos (2 ^ t.case.w))

-- where r is below m, the choice holds no number above r in the set, at some corner
abbrev pub ExitsAtMost : CaseData → Spans → List ℤ → List ℕ → ℤ → ℕ → ℕ → ℤ → Type 0
ExitsAtMost k spans x marks m s a r = r <ℤ m → AtSomeCorner k spans s a (CapsAt k spans (marked marks) (number x) (r +ℤ pos 1) (row_at k.model s a))

-- so do the first choices of a state, so many
pub record ChoicesExitAtMost (k : CaseData) (spans : Spans) (x : List ℤ) (marks : List ℕ) (m : ℤ) (s count : ℕ) (r : ℤ) : Type 0 where
  pub least : pos 0 ≤ℤ r
  pub each : (a : ℕ) → a < count → a < length (choices k.model s) → ExitsAtMost k spans x marks m s a r

-- so do all choices of the first states, so many, that are marked
pub record StatesExitAtMost (k : CaseData) (spans : Spans) (x : List ℤ) (marks : List ℕ) (m : ℤ) (count : ℕ) (r : ℤ) : Type 0 where
  pub least : pos 0 ≤ℤ r
  pub each : (s a : ℕ) → s < count → marked marks s ≡ true → a < length (choices k.model s) → ExitsAtMost k spans x marks m s a r

-- some of the marked states have the number r, and all else is as it was
pub record AreLoweredTo (old new : List ℤ) (marks : List ℕ) (r : ℤ) : Type 0 where
  pub size : length new ≡ length old
  pub each : (t : ℕ) → (number new t ≡ number old t) ⊎ ((marked marks t ≡ true) × (number new t ≡ r))
