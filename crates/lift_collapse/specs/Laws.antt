-- What is found on a collapsed model, and what it says of the whole one.
use Rattle.std.specs.Prelude.{ℤ, List, Bool}
use Rattle.lift_grid.specs.Rectangle.{Spans}
use Rattle.lift_grid.specs.Tree.{RejectData}
use Rattle.corner_lift.specs.Case.{CaseData, IsCase, IsInside}
use Rattle.corner_lift.specs.Stages.{IsGreatestLower}
use Rattle.lower_cert.specs.Limit.{NoneIsAbove}
use Rattle.lower_cert.specs.Lowering.{IsHigh}
use Rattle.rounded_iter.specs.Watching.{IsLeastWithin}
use Rattle.lift_collapse.specs.Collapse.{CollapseData, IsCollapse, collapsed, spread}

-- the case of a collapsed model is one
abbrev pub CollapsedIsCase : Type 0
CollapsedIsCase = (k : CaseData) (c : CollapseData) → IsCase k → IsCollapse k.model c → IsCase (collapsed k c)

-- Least upper vectors: that of the collapsed model, read at the places, is that of the whole one; and where in each upper vector of the one the initial state's number is above a limit, it is so in each of the other.
abbrev pub UpperSpreads : Type 0
UpperSpreads = (k : CaseData) (spans : Spans) (c : CollapseData) (limit : ℤ) (z : List ℤ) (within : Bool) → IsCase k → IsInside k.root spans → IsCollapse k.model c
    → IsLeastWithin (collapsed k c) spans limit z within → IsLeastWithin k spans limit (spread c z) within

-- Greatest lower vectors: the numbers of the collapsed model's, read at the places, lie at or above each lower vector of the whole one.
abbrev pub LowerSpreads : Type 0
LowerSpreads = (k : CaseData) (spans : Spans) (c : CollapseData) (r : RejectData) → IsCase k → IsInside k.root spans → IsCollapse k.model c
    → IsGreatestLower (collapsed k c) spans r → IsHigh k spans (spread c r.numbers)

-- so do those of any vector that lies at or above each lower vector of the collapsed model
abbrev pub HighSpreads : Type 0
HighSpreads = (k : CaseData) (spans : Spans) (c : CollapseData) (z : List ℤ) → IsCase k → IsInside k.root spans → IsCollapse k.model c
    → IsHigh (collapsed k c) spans z → IsHigh k spans (spread c z)

-- where no lower vector of the collapsed model is above a limit at the initial state, none of the whole one is
abbrev pub NoneSpreads : Type 0
NoneSpreads = (k : CaseData) (spans : Spans) (c : CollapseData) (limit : ℤ) → IsCase k → IsInside k.root spans → IsCollapse k.model c
    → NoneIsAbove (collapsed k c) spans limit → NoneIsAbove k spans limit
