-- What holds of certificates over every choice and over one, for who reasons about them.
use Rattle.std.specs.Prelude.{◌≡◌, ◌*◌, ℕ, Bool, List, ℤ, pos, ◌+ℤ◌, ◌-ℤ◌, ◌*ℤ◌, ◌≤ℤ◌, ◌<ℤ◌, ◌⊎◌}
use Rattle.lift_poly.specs.Polynomial.{Valuation}
use Rattle.lift_grid.specs.Rectangle.{Spans, Inside}
use Rattle.lift_grid.specs.Tree.{RejectData}
use Rattle.lift_model.specs.Process.{Process, power}
use Rattle.lift_model.specs.Plan.{Plan, Fits}
use Rattle.lift_model.specs.Reach.{reach}
use Rattle.lift_model.specs.Model.{ModelData}
use Rattle.property_text.specs.Restricted.{restricted}
use Rattle.corner_lift.specs.Case.{CaseData, IsCase, IsInside}
use Rattle.corner_lift.specs.Certificate.{AtMost, IsUpper, IsLower}
use Rattle.lift_cert.specs.declared.bound.Bound.{Bound}
use Rattle.property_text.specs.declared.op.Op.{Op}
use Rattle.lift_dual.specs.Supported.{IsSupportedByAll}
use Rattle.lift_dual.specs.Sides.{IsLowerAll, IsUpperOne}
use Rattle.lift_dual.specs.Property.{IsLowSide, IsHighSide}
use Rattle.lift_dual.specs.Said.{IsReachedByAllAt, IsBoundedForOneAt, UntilOfAllIsAtLeast, UntilOfAllIsAtMost, UntilOfOneIsAtMost, UntilOfOneIsAtLeast}

-- In k j steps every plan that fits reaches the goal with at least y over top, but for one part less than each in rate ^ k, j times.
abbrev pub SupportedPlansReach : Type 0
SupportedPlansReach = (process : Process) (top : ℤ) (y : ℕ → ℤ) (rank : ℕ → ℕ) (rate : ℤ) (k : ℕ) → IsSupportedByAll process top y rank rate k
    → (q j s : ℕ) (p : Plan) → Fits process q (k * j) s p → let m = power rate k in let steps = power (pos q *ℤ process.total) (k * j) in
    (y s *ℤ (power m j *ℤ steps)) ≤ℤ (top *ℤ (power m j *ℤ reach process q (k * j) s p +ℤ power (m -ℤ pos 1) j *ℤ steps))

-- a lower vector for every scheduler tells what each reaches at least, at every valuation inside its rectangle
abbrev pub LowerAllReaches : Type 0
LowerAllReaches = (k : CaseData) (spans : Spans) (r : RejectData) → IsCase k → IsInside k.root spans → IsLowerAll k spans r
    → (v : Valuation) → Inside k.d spans v → IsReachedByAllAt k.model v k.w r

-- an upper vector for one scheduler tells what each that makes its choices reaches at most
abbrev pub UpperOneBounds : Type 0
UpperOneBounds = (k : CaseData) (spans : Spans) (x : List ℤ) (picks : List ℕ) → IsCase k → IsInside k.root spans → IsUpperOne k spans x picks
    → (v : Valuation) → Inside k.d spans v → IsBoundedForOneAt k.model v k.w x picks

-- of two lower vectors for every scheduler there is one at or above both
abbrev pub LowerAllsJoin : Type 0
LowerAllsJoin = (k : CaseData) (spans : Spans) (a b : RejectData) → IsCase k → IsInside k.root spans → IsLowerAll k spans a → IsLowerAll k spans b
    → (r : RejectData) × (IsLowerAll k spans r × AtMost a.numbers r.numbers × AtMost b.numbers r.numbers)

-- of two upper vectors for one scheduler there is one at or below both
abbrev pub UpperOnesMeet : Type 0
UpperOnesMeet = (k : CaseData) (spans : Spans) (x y : List ℤ) (a b : List ℕ) → IsCase k → IsInside k.root spans → IsUpperOne k spans x a → IsUpperOne k spans y b
    → (z : List ℤ) × ((c : List ℕ) × (IsUpperOne k spans z c × AtMost z x × AtMost z y))

-- of two rectangles that share a valuation, no lower vector for every scheduler of the one is above an upper vector for one of the other: at that valuation both speak of the one that makes the choices
abbrev pub LowerAllIsBelowUpperOne : Type 0
LowerAllIsBelowUpperOne = (k : CaseData) (spans others : Spans) (x : List ℤ) (picks : List ℕ) (r : RejectData) (v : Valuation) → IsCase k → IsInside k.root spans → IsInside k.root others → Inside k.d spans v → Inside k.d others v
    → IsUpperOne k spans x picks → IsLowerAll k others r → AtMost r.numbers x

-- ---- until in the model read, by certificates of the model after the cut

-- each plan's until is at least what a lower vector for every scheduler tells
abbrev pub UntilIsReachedByAll : Type 0
UntilIsReachedByAll = (m : ModelData) (safe : List Bool) (k : CaseData) (spans : Spans) (r : RejectData) → k.model ≡ restricted m safe → IsCase k → IsInside k.root spans → IsLowerAll k spans r
    → (v : Valuation) → Inside k.d spans v → UntilOfAllIsAtLeast m safe v k.w r

-- until of each memoryless scheduler that makes the choices of an upper vector for one is at most what that tells
abbrev pub UntilIsBoundedForOne : Type 0
UntilIsBoundedForOne = (m : ModelData) (safe : List Bool) (k : CaseData) (spans : Spans) (x : List ℤ) (picks : List ℕ) → k.model ≡ restricted m safe → IsCase k → IsInside k.root spans → IsUpperOne k spans x picks
    → (v : Valuation) → Inside k.d spans v → UntilOfOneIsAtMost m safe v k.w x picks

-- each plan's until is at most what an upper vector tells
abbrev pub UntilIsBoundedForAll : Type 0
UntilIsBoundedForAll = (m : ModelData) (safe : List Bool) (k : CaseData) (spans : Spans) (x : List ℤ) → k.model ≡ restricted m safe → IsCase k → IsInside k.root spans → IsUpper k spans x
    → (v : Valuation) → Inside k.d spans v → UntilOfAllIsAtMost m safe v k.w x

-- until of each memoryless scheduler that makes the choices of a lower vector is at least what that tells
abbrev pub UntilIsReachedByOne : Type 0
UntilIsReachedByOne = (m : ModelData) (safe : List Bool) (k : CaseData) (spans : Spans) (r : RejectData) → k.model ≡ restricted m safe → IsCase k → IsInside k.root spans → IsLower k spans r
    → (v : Valuation) → Inside k.d spans v → UntilOfOneIsAtLeast m safe v k.w r

-- ---- the bound

-- a number on the lower side is below each on the upper one
abbrev pub SidesAreApart : Type 0
SidesAreApart = (op : Op) (bound : Bound) (w : ℕ) (low high : ℤ) → IsLowSide op bound w low → IsHighSide op bound w high → low <ℤ high

-- each number is on a side
abbrev pub EachHasASide : Type 0
EachHasASide = (op : Op) (bound : Bound) (w : ℕ) (z : ℤ) → IsLowSide op bound w z ⊎ IsHighSide op bound w z
