-- What the code keeps in a pool of vectors, one lane for each number of steps.
use Rattle.std.specs.Prelude.{◌≡◌, ℕ, ◌+◌, ◌<◌, ◌≤◌, List, ℤ, length}
use Rattle.lift_grid.specs.Rectangle.{Spans}
use Rattle.corner_lift.specs.Case.{CaseData}
use Rattle.corner_lift.specs.Certificate.{AreNumbers}
use Rattle.lift_bounded.specs.Steps.{nth, IsStart, IsLeastStep, IsGreatestStep}
use Rattle.lift_bounded.specs.Stepping.{StepsRise}

-- the pool has a lane for each number of steps up to h, with a place for each state
pub record HasVectors (k : CaseData) (h : ℕ) (lanes : List (List ℤ)) : Type 0 where
  pub count : length lanes ≡ h + 1
  pub sizes : (n : ℕ) → n ≤ h → length (nth lanes n) ≡ length k.model.states

-- the lanes up to n hold the vector of no step and the least steps from it
pub record HaveRisen (k : CaseData) (spans : Spans) (h n : ℕ) (lanes : List (List ℤ)) : Type 0 where
  pub has : HasVectors k h lanes
  pub start : IsStart k (nth lanes 0)
  pub numbers : AreNumbers k (nth lanes n)
  pub rises : StepsRise k spans (nth lanes n)
  pub steps : (i : ℕ) → i < n → IsLeastStep k spans (nth lanes i) (nth lanes (i + 1))

-- the pool has a lane of picks for each number of steps from 1 on, with a place for each state
pub record HasChoices (k : CaseData) (h : ℕ) (lanes : List (List ℕ)) : Type 0 where
  pub count : length lanes ≡ h
  pub sizes : (n : ℕ) → n < h → length (nth lanes n) ≡ length k.model.states

-- the lanes up to n hold the vector of no step and the greatest steps from it, with their choices
pub record HaveSunk (k : CaseData) (spans : Spans) (h n : ℕ) (lanes : List (List ℤ)) (picks : List (List ℕ)) : Type 0 where
  pub has : HasVectors k h lanes
  pub has_choices : HasChoices k h picks
  pub start : IsStart k (nth lanes 0)
  pub numbers : AreNumbers k (nth lanes n)
  pub steps : (i : ℕ) → i < n → IsGreatestStep k spans (nth lanes i) (nth lanes (i + 1)) (nth picks i)
