-- The right tree of a case for a property that compares a probability with a bound: which rectangles are decided, by which certificate, and which are halved. The textbook's verdicts for the schedulers that reach the most and the least, on rectangles.
use Rattle.std.specs.Prelude.{◌≡◌, ℕ, ◌<◌, ◌≤◌, Bool, true, false, not, List, ℤ}
use Rattle.lift_grid.specs.Rectangle.{Spans}
use Rattle.lift_grid.specs.Tree.{RejectData}
use Rattle.corner_lift.specs.Case.{CaseData, at, number}
use Rattle.corner_lift.specs.Certificate.{IsUpper, IsLower, IsLeastUpper}
use Rattle.corner_lift.specs.Stages.{IsGreatestLower}
use Rattle.lift_walk.specs.Halved.{Halved, IsRightBy}
use Rattle.lift_range.specs.Range.{Between}
use Rattle.lift_cert.specs.declared.bound.Bound.{Bound}
use Rattle.lower_cert.specs.AnyRanks.{UnboundedReject, IsUnboundedLower}
use Rattle.property_text.specs.declared.op.Op.{Op}
use Rattle.lift_dual.specs.Property.{is_upper, IsLowSide, IsHighSide}
use Rattle.lift_dual.specs.Sides.{IsUpperOne, IsLowerAll}
use Rattle.lift_dual.specs.Choosing.{IsLeastUpperOne}
use Rattle.lift_dual.specs.Avoiding.{IsGreatestLowerAll}

-- a decided leaf, by its certificate
pub data PropertyLeaf : Type 0 where
  -- an upper vector: what every scheduler reaches at most
  upper : List ℤ → PropertyLeaf
  -- an upper vector for one scheduler, with its choices: what that one reaches at most
  upper_one : List ℤ → List ℕ → PropertyLeaf
  -- a lower vector with the choices of one scheduler: what that one reaches at least
  lower : RejectData → PropertyLeaf
  -- a lower vector for every scheduler: what each reaches at least
  lower_all : RejectData → PropertyLeaf

-- whether a certificate bounds from above what is reached
abbrev pub bounds_above : PropertyLeaf → Bool
bounds_above (PropertyLeaf.upper x) = true
bounds_above (PropertyLeaf.upper_one x picks) = true
bounds_above (PropertyLeaf.lower r) = false
bounds_above (PropertyLeaf.lower_all r) = false

-- whether it tells of the scheduler that reaches the most; the others tell of the one that reaches the least
abbrev pub tells_of_most : PropertyLeaf → Bool
tells_of_most (PropertyLeaf.upper x) = true
tells_of_most (PropertyLeaf.upper_one x picks) = false
tells_of_most (PropertyLeaf.lower r) = true
tells_of_most (PropertyLeaf.lower_all r) = false

-- its number of the initial state, over 2 ^ w
abbrev pub initial_number : CaseData → PropertyLeaf → ℤ
initial_number k (PropertyLeaf.upper x) = number x k.model.init
initial_number k (PropertyLeaf.upper_one x picks) = number x k.model.init
initial_number k (PropertyLeaf.lower r) = number r.numbers k.model.init
initial_number k (PropertyLeaf.lower_all r) = number r.numbers k.model.init

-- it is a certificate of the rectangle
abbrev pub IsCertificate : CaseData → Spans → PropertyLeaf → Type 0
IsCertificate k spans (PropertyLeaf.upper x) = IsUpper k spans x
IsCertificate k spans (PropertyLeaf.upper_one x picks) = IsUpperOne k spans x picks
IsCertificate k spans (PropertyLeaf.lower r) = IsLower k spans r
IsCertificate k spans (PropertyLeaf.lower_all r) = IsLowerAll k spans r

-- It is the one of its kind that a leaf holds: of upper vectors the least, with the lowest choices that meet it, and of lower ones the greatest, with the ranks of its stages and the least e and k that these allow.
abbrev pub IsBest : CaseData → Spans → PropertyLeaf → Type 0
IsBest k spans (PropertyLeaf.upper x) = IsLeastUpper k spans x
IsBest k spans (PropertyLeaf.upper_one x picks) = IsLeastUpperOne k spans x picks
IsBest k spans (PropertyLeaf.lower r) = IsGreatestLower k spans r
IsBest k spans (PropertyLeaf.lower_all r) = IsGreatestLowerAll k spans r

-- its number of the initial state is on its side of the bound: the lower one, if it bounds from above, and else the upper one
abbrev pub IsOnSide : CaseData → Op → Bound → PropertyLeaf → Type 0
IsOnSide k op bound leaf = elim (bounds_above leaf) [ true ↦ IsLowSide op bound k.w (initial_number k leaf) | false ↦ IsHighSide op bound k.w (initial_number k leaf) ]

-- It tells whether the property holds: it is about the scheduler that the comparison is about, and its number of the initial state is on its side of the bound.
pub record Settles (k : CaseData) (op : Op) (bound : Bound) (leaf : PropertyLeaf) : Type 0 where
  pub scheduler : tells_of_most leaf ≡ is_upper op
  pub side : IsOnSide k op bound leaf

-- whether the property holds where the certificate tells of it: bounds from above show `<=` and `<`, and those from below `>=` and `>`
abbrev pub holds_by : Op → PropertyLeaf → Bool
holds_by op leaf = elim (bounds_above leaf) [ true ↦ is_upper op | false ↦ not (is_upper op) ]

-- the leaf decides the rectangle
abbrev pub DecidesFor : CaseData → Op → Bound → Spans → PropertyLeaf → Type 0
DecidesFor k op bound spans leaf = IsBest k spans leaf × Settles k op bound leaf

-- no certificate tells of the rectangle whether the property holds, nor a lower vector whose ranks have no bound
pub record IsOpenFor (k : CaseData) (op : Op) (bound : Bound) (spans : Spans) : Type 0 where
  pub none : (leaf : PropertyLeaf) → IsCertificate k spans leaf → Settles k op bound leaf → ⊥
  pub none_higher : is_upper op ≡ true → (u : UnboundedReject) → IsUnboundedLower k spans u → IsHighSide op bound k.w (number u.numbers k.model.init) → ⊥

-- the right tree over a rectangle at a depth
abbrev pub IsRightFor : CaseData → Op → Bound → Spans → ℕ → Halved PropertyLeaf → Type 0
IsRightFor k op bound spans depth tree = IsRightBy (DecidesFor k op bound) (IsOpenFor k op bound) k spans depth tree

-- ---- a range of precisions, from v to the case's own

-- a decided leaf: its precision, and its certificate there
pub record RangeLeaf : Type 0 where
  pub u : ℕ
  pub certificate : PropertyLeaf

-- the leaf decides the rectangle, at the least precision of the range that does
pub record DecidesOver (k : CaseData) (v : ℕ) (op : Op) (bound : Bound) (spans : Spans) (leaf : RangeLeaf) : Type 0 where
  pub between : Between v k.w leaf.u
  pub before : (t : ℕ) → v ≤ t → t < leaf.u → IsOpenFor (at k t) op bound spans
  pub decides : DecidesFor (at k leaf.u) op bound spans leaf.certificate

-- the rectangle is open: no precision of the range decides
abbrev pub IsOpenOver : CaseData → ℕ → Op → Bound → Spans → Type 0
IsOpenOver k v op bound spans = (u : ℕ) → Between v k.w u → IsOpenFor (at k u) op bound spans

-- the right tree over a rectangle at a depth, for the range
abbrev pub IsRightOver : CaseData → ℕ → Op → Bound → Spans → ℕ → Halved RangeLeaf → Type 0
IsRightOver k v op bound spans depth tree = IsRightBy (DecidesOver k v op bound) (IsOpenOver k v op bound) k spans depth tree
