-- What the code keeps while it makes a vector of one step more, state by state and choice by choice.
use Rattle.std.specs.Prelude.{◌≡◌, ℕ, ◌^◌, ◌<◌, ◌⊎◌, true, false, List, ℤ, pos, ◌*ℤ◌, ◌≤ℤ◌, ◌<ℤ◌, length}
use Rattle.lift_grid.specs.Rectangle.{Spans}
use Rattle.lift_model.specs.Model.{is_goal, choices}
use Rattle.corner_lift.specs.Case.{CaseData, row_value, row_whole, corner_count, number}
use Rattle.corner_lift.specs.Certificate.{AreNumbers, AtMost, unmarked}
use Rattle.corner_lift.specs.Lifted.{LiftedData, IsLiftedTo}
use Rattle.lift_bounded.specs.Steps.{IsUpperStep}
use Rattle.lift_bounded.specs.declared.steps.Chosen.{Chosen}

-- what a step needs: the table of a rectangle inside the case's root, and the vector of one step less
pub record CanStep (t : LiftedData) (spans : Spans) (x : List ℤ) : Type 0 where
  pub lifted : IsLiftedTo t spans
  pub numbers : AreNumbers t.case x

-- no upper vector of one step more lies below x at a state
abbrev pub StepsRise : CaseData → Spans → List ℤ → Type 0
StepsRise k spans x = (z : List ℤ) → IsUpperStep k spans x z → AtMost x z

-- ---- above

-- at each corner of the choice the weighted mean of x is at most v
abbrev pub Covers : CaseData → Spans → List ℤ → ℕ → ℕ → ℤ → Type 0
Covers k spans x s a v = (c : ℕ) → c < corner_count k s a → row_value k spans s a x c ≤ℤ (v *ℤ row_whole k s a)

-- the least number that covers a choice
pub record IsNeeded (k : CaseData) (spans : Spans) (x : List ℤ) (s a : ℕ) (v : ℤ) : Type 0 where
  pub range : (pos 0 ≤ℤ v) × (v ≤ℤ pos (2 ^ k.w))
  pub covers : Covers k spans x s a v
  pub least : (u : ℤ) → Covers k spans x s a u → v ≤ℤ u

-- the least number from u on that covers a choice: u, or else the one that it needs
abbrev pub IsRaised : CaseData → Spans → List ℤ → ℕ → ℕ → ℤ → ℤ → Type 0
IsRaised k spans x s a u v = ((v ≡ u) × Covers k spans x s a u) ⊎ ((u <ℤ v) × IsNeeded k spans x s a v)

-- the least number from the state's own on that covers its first choices, so many
pub record IsLeastFor (k : CaseData) (spans : Spans) (x : List ℤ) (s n : ℕ) (v : ℤ) : Type 0 where
  pub range : (pos 0 ≤ℤ v) × (v ≤ℤ pos (2 ^ k.w))
  pub covers : (a : ℕ) → a < n → Covers k spans x s a v
  pub least : (u : ℤ) → number x s ≤ℤ u → ((a : ℕ) → a < n → Covers k spans x s a u) → v ≤ℤ u

-- the number of a state in the least upper vector of one step more
pub record IsUpperAt (k : CaseData) (spans : Spans) (x : List ℤ) (s : ℕ) (v : ℤ) : Type 0 where
  pub goal : is_goal k.model s ≡ true → v ≡ pos (2 ^ k.w)
  pub other : is_goal k.model s ≡ false → IsLeastFor k spans x s (length (choices k.model s)) v

-- ---- below

-- at each corner of the choice the weighted mean of y is at least v
abbrev pub Holds : CaseData → Spans → List ℤ → ℕ → ℕ → ℤ → Type 0
Holds k spans y s a v = (c : ℕ) → c < corner_count k s a → (v *ℤ row_whole k s a) ≤ℤ row_value k spans s a y c

-- the greatest number that a choice holds
pub record IsMostHeld (k : CaseData) (spans : Spans) (y : List ℤ) (s a : ℕ) (v : ℤ) : Type 0 where
  pub range : (pos 0 ≤ℤ v) × (v ≤ℤ pos (2 ^ k.w))
  pub holds : Holds k spans y s a v
  pub most : (u : ℤ) → Holds k spans y s a u → u ≤ℤ v

-- the greatest number that one of the first choices of a state holds, of so many, with the lowest one that does
pub record IsGreatestFor (k : CaseData) (spans : Spans) (y : List ℤ) (s n : ℕ) (p : Chosen) : Type 0 where
  pub range : (pos 0 ≤ℤ p.number) × (p.number ≤ℤ pos (2 ^ k.w))
  pub in_range : p.pick < n
  pub holds : Holds k spans y s p.pick p.number
  pub greatest : (a : ℕ) (u : ℤ) → a < n → Holds k spans y s a u → u ≤ℤ p.number
  pub lowest : (a : ℕ) → a < p.pick → Holds k spans y s a p.number → ⊥

-- the number of a state and its chosen row in the greatest lower vector of one step more
pub record IsLowerAt (k : CaseData) (spans : Spans) (y : List ℤ) (s : ℕ) (v : ℤ) (pick : ℕ) : Type 0 where
  pub goal : is_goal k.model s ≡ true → (v ≡ pos (2 ^ k.w)) × (pick ≡ unmarked)
  pub other : is_goal k.model s ≡ false → IsGreatestFor k spans y s (length (choices k.model s)) (record { number = v; pick = pick })

-- the best of the choices so far and one more
pub record IsBetter (old : Chosen) (v : ℤ) (a : ℕ) (new : Chosen) : Type 0 where
  pub more : old.number <ℤ v → (new.number ≡ v) × (new.pick ≡ a)
  pub same : v ≤ℤ old.number → new ≡ old
