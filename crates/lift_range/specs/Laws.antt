-- What certificates at one precision say of those at others.
use Rattle.std.specs.Prelude.{ℕ, ◌+◌, ◌≤◌, List, ℤ}
use Rattle.lift_grid.specs.Rectangle.{Spans}
use Rattle.lift_grid.specs.Tree.{RejectData}
use Rattle.corner_lift.specs.Case.{CaseData, IsCase, IsInside, at, number}
use Rattle.corner_lift.specs.Certificate.{IsUpper, IsLower}
use Rattle.lift_cert.specs.declared.bound.Bound.{Bound}
use Rattle.lift_cert.specs.Certificate.{IsAccepting, IsRejecting, NoneAccepts}
use Rattle.lower_cert.specs.AnyRanks.{UnboundedReject, IsUnboundedLower}
use Rattle.property_text.specs.declared.op.Op.{Op}
use Rattle.lift_dual.specs.Property.{IsLowSide, IsHighSide}
use Rattle.lift_dual.specs.Sides.{IsUpperOne, IsLowerAll}
use Rattle.lift_range.specs.Doubled.{doubled, doubled_data, doubled_unbounded}

-- an accepting certificate at u, doubled, is one at u + 1; and so on
abbrev pub AcceptingDoubles : Type 0
AcceptingDoubles = (k : CaseData) (spans : Spans) (bound : Bound) (u s : ℕ) (x : List ℤ) → IsAccepting (at k u) spans bound x → IsAccepting (at k (u + s)) spans bound (doubled s x)

-- a rejecting certificate at u, doubled, is one at u + 1; and so on
abbrev pub RejectingDoubles : Type 0
RejectingDoubles = (k : CaseData) (spans : Spans) (bound : Bound) (u s : ℕ) (r : RejectData) → IsRejecting (at k u) spans bound r → IsRejecting (at k (u + s)) spans bound (doubled_data s r)

-- so where no accepting certificate exists at a precision, none exists at a lower one
abbrev pub NoneAcceptsBelow : Type 0
NoneAcceptsBelow = (k : CaseData) (spans : Spans) (bound : Bound) (u v : ℕ) → u ≤ v → NoneAccepts (at k v) spans bound → NoneAccepts (at k u) spans bound

-- nor a rejecting one
abbrev pub NoneRejectsBelow : Type 0
NoneRejectsBelow = (k : CaseData) (spans : Spans) (bound : Bound) (u v : ℕ) → u ≤ v → ((r : RejectData) → IsRejecting (at k v) spans bound r → ⊥) → (r : RejectData) → IsRejecting (at k u) spans bound r → ⊥

-- no rectangle has certificates of both kinds, at any two precisions
abbrev pub NotBothKindsAtPrecisions : Type 0
NotBothKindsAtPrecisions = (k : CaseData) (spans : Spans) (bound : Bound) (u v : ℕ) (x : List ℤ) (r : RejectData) → IsCase k → IsInside k.root spans → u ≤ k.w → v ≤ k.w
    → IsAccepting (at k u) spans bound x → IsRejecting (at k v) spans bound r → ⊥

-- ---- vectors

-- an upper vector at u, doubled, is one at u + 1; and so on
abbrev pub UpperDoubles : Type 0
UpperDoubles = (k : CaseData) (spans : Spans) (u s : ℕ) (x : List ℤ) → IsUpper (at k u) spans x → IsUpper (at k (u + s)) spans (doubled s x)

-- an upper vector for one scheduler, with the same choices
abbrev pub UpperOneDoubles : Type 0
UpperOneDoubles = (k : CaseData) (spans : Spans) (u s : ℕ) (x : List ℤ) (picks : List ℕ) → IsUpperOne (at k u) spans x picks → IsUpperOne (at k (u + s)) spans (doubled s x) picks

-- a lower vector, with the same choices and ranks
abbrev pub LowerDoubles : Type 0
LowerDoubles = (k : CaseData) (spans : Spans) (u s : ℕ) (r : RejectData) → IsLower (at k u) spans r → IsLower (at k (u + s)) spans (doubled_data s r)

-- a lower vector for every scheduler, with the same ranks
abbrev pub LowerAllDoubles : Type 0
LowerAllDoubles = (k : CaseData) (spans : Spans) (u s : ℕ) (r : RejectData) → IsLowerAll (at k u) spans r → IsLowerAll (at k (u + s)) spans (doubled_data s r)

-- a lower vector whose ranks have no bound
abbrev pub UnboundedLowerDoubles : Type 0
UnboundedLowerDoubles = (k : CaseData) (spans : Spans) (u s : ℕ) (r : UnboundedReject) → IsUnboundedLower (at k u) spans r → IsUnboundedLower (at k (u + s)) spans (doubled_unbounded s r)

-- a state's number, doubled, stays on the lower side of a bound
abbrev pub LowSideDoubles : Type 0
LowSideDoubles = (op : Op) (bound : Bound) (u s : ℕ) (x : List ℤ) (i : ℕ) → IsLowSide op bound u (number x i) → IsLowSide op bound (u + s) (number (doubled s x) i)

-- and on the upper one
abbrev pub HighSideDoubles : Type 0
HighSideDoubles = (op : Op) (bound : Bound) (u s : ℕ) (x : List ℤ) (i : ℕ) → IsHighSide op bound u (number x i) → IsHighSide op bound (u + s) (number (doubled s x) i)
