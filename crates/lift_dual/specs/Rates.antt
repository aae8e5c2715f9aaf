-- Rates of every choice: how fast each leads to states of lower rank.
use Rattle.std.specs.Prelude.{◌≡◌, ℕ, ◌<◌, false, List, length}
use Rattle.lift_grid.specs.Rectangle.{Spans}
use Rattle.lift_model.specs.Model.{is_goal, choices}
use Rattle.corner_lift.specs.Case.{CaseData}
use Rattle.corner_lift.specs.Certificate.{unmarked, mark}
use Rattle.robust_rank.specs.Rate.{IsRowRate}

-- e is a rate of the state's first choices, so many
abbrev pub IsRateOfChoices : CaseData → Spans → List ℕ → ℕ → ℕ → ℕ → Type 0
IsRateOfChoices k spans ranks s count e = (a : ℕ) → a < count → IsRowRate k spans ranks s a e

-- of all its choices, where it has a rank and is no goal state
abbrev pub IsRateOfState : CaseData → Spans → List ℕ → ℕ → ℕ → Type 0
IsRateOfState k spans ranks s e = is_goal k.model s ≡ false → mark ranks s < unmarked → IsRateOfChoices k spans ranks s (length (choices k.model s)) e

-- of the choices of the first states, so many
abbrev pub IsRateOfStates : CaseData → Spans → List ℕ → ℕ → ℕ → Type 0
IsRateOfStates k spans ranks count e = (s : ℕ) → s < count → IsRateOfState k spans ranks s e
