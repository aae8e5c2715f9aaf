-- Value vectors: bounds of what a scheduler reaches for certain, as each of its choices is worth what its least corner gives.
use Rattle.std.specs.Prelude.{◌≡◌, ℕ, ◌^◌, ◌<◌, true, false, List, ℤ, pos, ◌*ℤ◌, ◌≤ℤ◌, All}
use Rattle.lift_grid.specs.Rectangle.{Spans}
use Rattle.lift_model.specs.declared.entry.Entry.{Entry}
use Rattle.lift_model.specs.Model.{is_goal, choices, support}
use Rattle.corner_lift.specs.Corner.{corner_sum, parameter_count, whole}
use Rattle.corner_lift.specs.Case.{CaseData, number}
use Rattle.corner_lift.specs.Certificate.{AreNumbers, AtMost}

-- at some corner of the row its weighted mean of x is at most the number
abbrev pub SomeMeanAtMost : CaseData → Spans → List Entry → List ℤ → ℤ → Type 0
SomeMeanAtMost k spans row x n = (c : ℕ) × ((c < 2 ^ parameter_count spans (support row)) × (corner_sum k.d spans row c (number x) ≤ℤ (n *ℤ whole k.model k.d spans row)))

-- a value vector: 2 ^ w on goal states, and elsewhere at least the greatest over the choices of the least weighted mean over the corners
pub record IsValue (k : CaseData) (spans : Spans) (x : List ℤ) : Type 0 where
  pub numbers : AreNumbers k x
  pub goal : (s : ℕ) → is_goal k.model s ≡ true → number x s ≡ pos (2 ^ k.w)
  pub means : (s : ℕ) → is_goal k.model s ≡ false → All (λ row. SomeMeanAtMost k spans row x (number x s)) (choices k.model s)

-- the value vector that is least at each state
pub record IsLeastValue (k : CaseData) (spans : Spans) (x : List ℤ) : Type 0 where
  pub value : IsValue k spans x
  pub least : (y : List ℤ) → IsValue k spans y → AtMost x y
