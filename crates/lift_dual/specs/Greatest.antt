-- The greatest lower vector for every scheduler, within a limit.
use Rattle.std.specs.Prelude.{◌≡◌, ℕ, ◌^◌, ◌≤◌, Bool, true, false, List, ℤ, pos, ◌≤ℤ◌, ◌<ℤ◌, length}
use Rattle.lift_grid.specs.Rectangle.{Spans}
use Rattle.lift_grid.specs.Tree.{RejectData}
use Rattle.corner_lift.specs.Case.{CaseData, number}
use Rattle.lift_dual.specs.Sides.{IsLowerAll}
use Rattle.lift_dual.specs.Avoiding.{IsAvoiding, IsLeastAvoiding, IsGreatestLowerAll}

-- The least avoiding vector, where the initial state's number in it is within the limit; else that number is above the limit in every avoiding vector. No number is above 2 ^ w.
pub record IsLeastAvoidingWithin (k : CaseData) (spans : Spans) (limit : ℤ) (rank : ℕ → ℕ) (z : List ℤ) (within : Bool) : Type 0 where
  pub least : within ≡ true → IsLeastAvoiding k spans rank z
  pub first : within ≡ true → number z k.model.init ≤ℤ limit
  pub past : within ≡ false → (o : List ℤ) → IsAvoiding k spans rank o → limit <ℤ number o k.model.init
  pub always : pos (2 ^ k.w) ≤ℤ limit → within ≡ true

-- the greatest lower vector for every scheduler, with a height of at most the number of states, where its number of the initial state is above the limit
pub record IsGreatestAllAbove (k : CaseData) (spans : Spans) (limit : ℤ) (r : RejectData) : Type 0 where
  pub greatest : IsGreatestLowerAll k spans r
  pub height : r.k ≤ length k.model.states
  pub above : limit <ℤ number r.numbers k.model.init

-- in no lower vector for every scheduler is the initial state's number above the limit
abbrev pub NoneOfAllIsAbove : CaseData → Spans → ℤ → Type 0
NoneOfAllIsAbove k spans limit = (r : RejectData) → IsLowerAll k spans r → number r.numbers k.model.init ≤ℤ limit
