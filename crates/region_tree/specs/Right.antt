-- The right tree of a case for a bound and a range of precisions, from v to the case's own: which rectangles are decided, at which precision, and which are halved.
use Rattle.std.specs.Prelude.{ℕ, ◌<◌, ◌≤◌, List, ℤ}
use Rattle.lift_grid.specs.Rectangle.{Spans}
use Rattle.lift_grid.specs.Tree.{Tree, RejectData}
use Rattle.lift_grid.specs.Tree.Tree.{split as split-tree, accept as accept-tree, reject as reject-tree, unknown as unknown-tree}
use Rattle.corner_lift.specs.Case.{CaseData, at, number}
use Rattle.corner_lift.specs.Certificate.{IsLeastUpper}
use Rattle.corner_lift.specs.Stages.{IsGreatestLower}
use Rattle.lift_cert.specs.Certificate.{IsAccepting, IsRejecting, IsBeyond, NoneAccepts}
use Rattle.lift_cert.specs.declared.bound.Bound.{Bound}
use Rattle.lift_range.specs.Range.{Between}
use Rattle.lower_cert.specs.AnyRanks.{UnboundedReject, IsUnboundedLower}
use Rattle.lift_walk.specs.Halved.{Halved, IsRightBy}
pub use Rattle.lift_walk.specs.Sides.{IsAtDepth}

-- a rejecting certificate whose ranks and k have no bound: a lower vector whose number of the initial state is beyond the bound
pub record IsRejectingAtAnyHeight (k : CaseData) (spans : Spans) (bound : Bound) (u : UnboundedReject) : Type 0 where
  pub holds : IsUnboundedLower k spans u
  pub limit : IsBeyond bound k.w (number u.numbers k.model.init)

-- no rejecting certificate of the rectangle exists, with any ranks and any k
abbrev pub NoneRejects : CaseData → Spans → Bound → Type 0
NoneRejects k spans bound = (u : UnboundedReject) → IsRejectingAtAnyHeight k spans bound u → ⊥

-- a precision u at which the rectangle is open: there is no certificate of either kind
pub record IsOpenAt (k : CaseData) (spans : Spans) (bound : Bound) (u : ℕ) : Type 0 where
  pub accepts : NoneAccepts (at k u) spans bound
  pub rejects : NoneRejects (at k u) spans bound

-- the rectangle is open: no precision of the range decides
abbrev pub IsOpen : CaseData → ℕ → Spans → Bound → Type 0
IsOpen k v spans bound = (u : ℕ) → Between v k.w u → IsOpenAt k spans bound u

-- u is a precision of the range, and none below it in the range decides
pub record IsFirst (k : CaseData) (v : ℕ) (spans : Spans) (bound : Bound) (u : ℕ) : Type 0 where
  pub between : Between v k.w u
  pub before : (t : ℕ) → v ≤ t → t < u → IsOpenAt k spans bound t

-- the rectangle is accepted at u, the least precision that decides: an accepting certificate exists there, and x is the least upper vector, which is one
pub record IsAccepted (k : CaseData) (v : ℕ) (spans : Spans) (bound : Bound) (u : ℕ) (x : List ℤ) : Type 0 where
  pub first : IsFirst k v spans bound u
  pub accepting : IsAccepting (at k u) spans bound x
  pub least : IsLeastUpper (at k u) spans x

-- the rectangle is rejected at u, the least precision that decides: no accepting certificate exists there, a rejecting one does, and r is the greatest lower vector, which is one
pub record IsRejected (k : CaseData) (v : ℕ) (spans : Spans) (bound : Bound) (u : ℕ) (r : RejectData) : Type 0 where
  pub first : IsFirst k v spans bound u
  pub none : NoneAccepts (at k u) spans bound
  pub rejecting : IsRejecting (at k u) spans bound r
  pub greatest : IsGreatestLower (at k u) spans r

-- A decided leaf: it accepts with its precision and numbers, or rejects with its precision and certificate.
pub data Decision : Type 0 where
  accept : ℕ → List ℤ → Decision
  reject : ℕ → RejectData → Decision

-- the leaf decides the rectangle, at the least precision that does
abbrev pub Decides : CaseData → ℕ → Bound → Spans → Decision → Type 0
Decides k v bound spans (Decision.accept u x) = IsAccepted k v spans bound u x
Decides k v bound spans (Decision.reject u r) = IsRejected k v spans bound u r

-- a tree, seen as one with leaves that decide
abbrev pub halved_of : Tree → Halved Decision
halved_of (split-tree axis lower upper) = Halved.split axis (halved_of lower) (halved_of upper)
halved_of (accept-tree u x) = Halved.leaf (Decision.accept u x)
halved_of (reject-tree u r) = Halved.leaf (Decision.reject u r)
halved_of unknown-tree = Halved.unknown

-- and back
abbrev pub tree_from : Halved Decision → Tree
tree_from (Halved.split axis lower upper) = split-tree axis (tree_from lower) (tree_from upper)
tree_from (Halved.leaf (Decision.accept u x)) = accept-tree u x
tree_from (Halved.leaf (Decision.reject u r)) = reject-tree u r
tree_from Halved.unknown = unknown-tree

-- The right tree over a rectangle at a depth: a leaf that accepts or rejects it, at the least precision that decides; where none does, a split with the right trees of both halves while a halving is left, and an unknown leaf at the greatest depth.
abbrev pub IsRight : CaseData → ℕ → Spans → Bound → ℕ → Tree → Type 0
IsRight k v spans bound depth tree = IsRightBy (Decides k v bound) (λ part. IsOpen k v part bound) k spans depth (halved_of tree)

-- the right tree of a case: that over its root, at depth 0
abbrev pub IsRightTree : CaseData → ℕ → Bound → Tree → Type 0
IsRightTree k v bound tree = IsRight k v k.root bound 0 tree
