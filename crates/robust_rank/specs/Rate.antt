-- The rate of choices: how fast they lead to states of lower rank.
use Rattle.std.specs.Prelude.{◌≡◌, ℕ, ◌^◌, ◌<◌, ◌≤◌, List, pos, ◌*ℤ◌, ◌≤ℤ◌, length}
use Rattle.lift_grid.specs.Rectangle.{Spans}
use Rattle.lift_model.specs.Model.{choices, row_at}
use Rattle.corner_lift.specs.Corner.{AtCorners, corner_sum, whole}
use Rattle.corner_lift.specs.Case.{CaseData}
use Rattle.corner_lift.specs.Certificate.{unmarked, mark, ranked_below}
use Rattle.corner_lift.specs.Stages.{LeadsBelow}

-- one rank and one pick for each state. A chosen row is a choice that leads, at every corner and with positive weight, to states of lower rank.
pub record AreChoices (k : CaseData) (spans : Spans) (ranks picks : List ℕ) : Type 0 where
  pub sizes : (length ranks ≡ length k.model.states) × (length picks ≡ length k.model.states)
  pub in_range : (s : ℕ) → mark picks s < unmarked → mark picks s < length (choices k.model s)
  pub leads : (s : ℕ) → mark picks s < unmarked → LeadsBelow k spans (mark ranks) (mark ranks s) s (mark picks s)

-- e is a rate of the state's choice: at each corner the weight into states of lower rank, times 2 ^ e, is at least the whole
abbrev pub IsRowRate : CaseData → Spans → List ℕ → ℕ → ℕ → ℕ → Type 0
IsRowRate k spans ranks s a e = let row = row_at k.model s a in
    AtCorners spans row (λ c. whole k.model k.d spans row ≤ℤ (corner_sum k.d spans row c (ranked_below (mark ranks) (mark ranks s)) *ℤ pos (2 ^ e)))

-- a rate of the state's chosen row, if it has one
abbrev pub IsStateRate : CaseData → Spans → List ℕ → List ℕ → ℕ → ℕ → Type 0
IsStateRate k spans ranks picks s e = mark picks s < unmarked → IsRowRate k spans ranks s (mark picks s) e

-- a rate of the choices of the first states, so many
abbrev pub IsStateRateBefore : CaseData → Spans → List ℕ → List ℕ → ℕ → ℕ → Type 0
IsStateRateBefore k spans ranks picks count e = (s : ℕ) → s < count → IsStateRate k spans ranks picks s e

-- the first number from a given one on that has the property
pub record IsFirstFrom (P : ℕ → Type 0) (first n : ℕ) : Type 0 where
  pub from : first ≤ n
  pub holds : P n
  pub least : (m : ℕ) → first ≤ m → P m → n ≤ m

-- the least rate of all picks
abbrev pub IsLeastRate : CaseData → Spans → List ℕ → List ℕ → ℕ → Type 0
IsLeastRate k spans ranks picks e = IsFirstFrom (IsStateRateBefore k spans ranks picks (length k.model.states)) 0 e
