-- By which rules of bounds the least vectors of both kinds are found.
use Rattle.std.specs.Prelude.{◌≡◌, ℕ, ◌<◌, ◌↔◌, false, List, ℤ, length}
use Rattle.std.specs.Borrow.{Bor}
use Rattle.lift_grid.specs.Rectangle.{Spans}
use Rattle.lift_model.specs.Model.{is_goal}
use Rattle.corner_lift.specs.Case.{CaseData, IsCase, IsInside}
use Rattle.corner_lift.specs.Certificate.{mark}
use Rattle.float_guess.specs.declared.rule.Extreme.TheVariants.{Greatest, Least}
use Rattle.float_guess.specs.declared.rule.Ends.TheVariants.{Goals, Unranked}
use Rattle.float_guess.specs.declared.rule.Rule.{Rule}
use Rattle.rounded_iter.specs.Rising.{IsEnoughEverywhere, IsLeastBound}
use Rattle.lift_dual.specs.Sides.{IsUpperOne}
use Rattle.lift_dual.specs.Avoiding.{IsAvoiding, IsLeastAvoiding}
use Rattle.lift_dual.specs.Choosing.{HasSatisfied, AreLowestChoices, IsLeastUpperOne}

-- upper vectors for one scheduler: one choice has to be met, at each corner, and goal states have 2 ^ w
abbrev pub for_one : Rule
for_one = record { choice = Least; corner = Greatest; ends = Goals }

-- avoiding vectors: each choice has to be met, at each corner, goal states have 0, and states without rank 2 ^ w
abbrev pub for_all : Bor (List ℕ) → Rule
for_all ranks = record { choice = Greatest; corner = Greatest; ends = Unranked ranks }

-- the bounds by the one rule are the avoiding vectors
abbrev pub BoundsAreAvoiding : Type 0
BoundsAreAvoiding = (k : CaseData) (spans : Spans) (ranks : Bor (List ℕ)) (z : List ℤ) → IsCase k → IsInside k.root spans
    → IsEnoughEverywhere (for_all ranks) k spans z ↔ IsAvoiding k spans (mark ranks.now) z

-- so the least bound is the least avoiding vector
abbrev pub LeastBoundIsAvoiding : Type 0
LeastBoundIsAvoiding = (k : CaseData) (spans : Spans) (ranks : Bor (List ℕ)) (z : List ℤ) → IsCase k → IsInside k.root spans
    → IsLeastBound (for_all ranks) k spans z → IsLeastAvoiding k spans (mark ranks.now) z

-- each upper vector for one scheduler is a bound by the other rule
abbrev pub UpperOneIsBound : Type 0
UpperOneIsBound = (k : CaseData) (spans : Spans) (x : List ℤ) (picks : List ℕ) → IsCase k → IsInside k.root spans
    → IsUpperOne k spans x picks → IsEnoughEverywhere for_one k spans x

-- in such a bound some choice meets each state's number
abbrev pub BoundIsSatisfied : Type 0
BoundIsSatisfied = (k : CaseData) (spans : Spans) (x : List ℤ) → IsCase k → IsInside k.root spans → IsEnoughEverywhere for_one k spans x
    → (s : ℕ) → s < length k.model.states → is_goal k.model s ≡ false → HasSatisfied k spans x s

-- so the least bound, with the lowest choices that meet it, is the least upper vector for one scheduler
abbrev pub LeastBoundIsUpperOne : Type 0
LeastBoundIsUpperOne = (k : CaseData) (spans : Spans) (x : List ℤ) (picks : List ℕ) → IsCase k → IsInside k.root spans
    → IsLeastBound for_one k spans x → AreLowestChoices k spans x picks → IsLeastUpperOne k spans x picks
