-- Greatest lower vectors whose number of the initial state is above a limit.
use Rattle.std.specs.Prelude.{◌≤◌, ℤ, ◌≤ℤ◌, ◌<ℤ◌, length}
use Rattle.lift_grid.specs.Rectangle.{Spans}
use Rattle.lift_grid.specs.Tree.{RejectData}
use Rattle.corner_lift.specs.Case.{CaseData, number}
use Rattle.corner_lift.specs.Certificate.{IsLower}
use Rattle.corner_lift.specs.Stages.{IsGreatestLower}

-- the greatest lower vector, with a height of at most the number of states, where its number of the initial state is above the limit
pub record IsGreatestAbove (k : CaseData) (spans : Spans) (limit : ℤ) (r : RejectData) : Type 0 where
  pub greatest : IsGreatestLower k spans r
  pub height : r.k ≤ length k.model.states
  pub above : limit <ℤ number r.numbers k.model.init

-- no lower vector's number of the initial state is above the limit
abbrev pub NoneIsAbove : CaseData → Spans → ℤ → Type 0
NoneIsAbove k spans limit = (r : RejectData) → IsLower k spans r → number r.numbers k.model.init ≤ℤ limit
