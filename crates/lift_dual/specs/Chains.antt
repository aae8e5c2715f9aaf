-- Certificates of a chain. Each of its states has one choice, so it has one scheduler: what is said of the one that reaches the most is said of the one that reaches the least, and of every one.
use Rattle.std.specs.Prelude.{◌≡◌, ℕ, ◌<◌, Bool, true, List, [], ℤ, length, if◌then◌else◌}
use Rattle.lift_grid.specs.Rectangle.{Spans}
use Rattle.lift_grid.specs.Tree.{RejectData}
use Rattle.lift_model.specs.declared.kind.Kind.TheVariants.{Dtmc}
use Rattle.lift_model.specs.Model.{ModelData, is_goal}
use Rattle.corner_lift.specs.Case.{CaseData, IsCase, IsInside}
use Rattle.corner_lift.specs.Certificate.{unmarked, mark}
use Rattle.rounded_iter.specs.Watching.{IsLeastWithin}
use Rattle.lower_cert.specs.Limit.{IsGreatestAbove, NoneIsAbove}
use Rattle.lift_dual.specs.Choosing.{IsLeastUpperOneWithin}
use Rattle.lift_dual.specs.Greatest.{IsGreatestAllAbove, NoneOfAllIsAbove}

-- the first choice of each state that is no goal state, and none of a goal state
pub record AreFirstChoices (m : ModelData) (picks : List ℕ) : Type 0 where
  pub size : length picks ≡ length m.states
  pub each : (s : ℕ) → s < length m.states → mark picks s ≡ (if is_goal m s then unmarked else 0)

-- the least upper vector within a limit is the least one for one scheduler, with the first choices
abbrev pub LeastWithinIsForOne : Type 0
LeastWithinIsForOne = (k : CaseData) (spans : Spans) (limit : ℤ) (x : List ℤ) (picks : List ℕ) (within : Bool) → IsCase k → IsInside k.root spans → k.model.kind ≡ Dtmc
    → IsLeastWithin k spans limit x within → (within ≡ true → AreFirstChoices k.model picks) → IsLeastUpperOneWithin k spans limit x picks within

-- the greatest lower vector above a limit is the greatest one for every scheduler, which picks none
abbrev pub GreatestAboveIsForAll : Type 0
GreatestAboveIsForAll = (k : CaseData) (spans : Spans) (limit : ℤ) (r : RejectData) → IsCase k → IsInside k.root spans → k.model.kind ≡ Dtmc
    → IsGreatestAbove k spans limit r → IsGreatestAllAbove k spans limit (record r { picks = [] })

-- where no lower vector is above a limit, none for every scheduler is
abbrev pub NoneAboveIsForAll : Type 0
NoneAboveIsForAll = (k : CaseData) (spans : Spans) (limit : ℤ) → IsCase k → k.model.kind ≡ Dtmc → NoneIsAbove k spans limit → NoneOfAllIsAbove k spans limit
