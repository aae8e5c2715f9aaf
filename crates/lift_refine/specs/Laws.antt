-- What holds of right trees in a case over a finer grid, for who reasons about them.
use Rattle.std.specs.Prelude.{ℕ, ◌≤◌, List, ℤ, ◌↔◌}
use Rattle.lift_grid.specs.Rectangle.{Spans}
use Rattle.lift_grid.specs.Tree.{Tree, RejectData}
use Rattle.corner_lift.specs.Case.{CaseData, IsCase}
use Rattle.lift_cert.specs.declared.bound.Bound.{Bound}
use Rattle.lower_cert.specs.AnyRanks.{UnboundedReject, IsUnboundedLower}
use Rattle.region_tree.specs.Right.{IsAtDepth, NoneRejects, IsOpenAt, IsOpen, IsFirst, IsAccepted, IsRejected, IsRight, IsRightTree}
use Rattle.lift_finer.specs.Finer.{finer_spans, finer_case, KnowsNoGrid}
use Rattle.lift_finer.specs.Refined.{Refines, IsCertified, IsBase}
use Rattle.lift_refine.specs.Deeper.{deeper_case, AreAsDeep}

-- ---- rectangles

-- the lower vectors whose ranks have no bound
abbrev pub UnboundedLowersStay : Type 0
UnboundedLowersStay = (u : UnboundedReject) → KnowsNoGrid (λ k spans. IsUnboundedLower k spans u)

-- whether there is a rejecting certificate, with any ranks
abbrev pub NoneRejectsStays : Type 0
NoneRejectsStays = (bound : Bound) → KnowsNoGrid (λ k spans. NoneRejects k spans bound)

-- whether a rectangle is open at a precision
abbrev pub OpenAtStays : Type 0
OpenAtStays = (bound : Bound) (u : ℕ) → KnowsNoGrid (λ k spans. IsOpenAt k spans bound u)

-- whether it is open
abbrev pub OpenStays : Type 0
OpenStays = (v : ℕ) (bound : Bound) → KnowsNoGrid (λ k spans. IsOpen k v spans bound)

-- which precisions come before the first that decides
abbrev pub FirstStays : Type 0
FirstStays = (v : ℕ) (bound : Bound) (u : ℕ) → KnowsNoGrid (λ k spans. IsFirst k v spans bound u)

-- whether it is accepted, and by which numbers
abbrev pub AcceptedStays : Type 0
AcceptedStays = (v : ℕ) (bound : Bound) (u : ℕ) (x : List ℤ) → KnowsNoGrid (λ k spans. IsAccepted k v spans bound u x)

-- whether it is rejected, and by what
abbrev pub RejectedStays : Type 0
RejectedStays = (v : ℕ) (bound : Bound) (u : ℕ) (r : RejectData) → KnowsNoGrid (λ k spans. IsRejected k v spans bound u r)

-- ---- trees

-- The right tree over a rectangle depends neither on how fine the grid is, nor on the root; of the depth it depends on how many halvings are left.
abbrev pub RightTreesStay : Type 0
RightTreesStay = (k : CaseData) (spans root : Spans) (n limit v : ℕ) (bound : Bound) (depth place : ℕ) (t : Tree) → IsCase k → IsAtDepth k depth spans → 1 ≤ n → AreAsDeep k depth (finer_case n root limit k) place
    → IsRight k v spans bound depth t ↔ IsRight (finer_case n root limit k) v (finer_spans n spans) bound place t

-- Where a tree refines the right tree over a rectangle with right trees of a case that may be halved more often, it is right in that case.
abbrev pub RefinedTreesAreRight : Type 0
RefinedTreesAreRight = (k : CaseData) (spans root : Spans) (n limit v : ℕ) (bound : Bound) (depth : ℕ) (t refined : Tree) → IsCase k → IsAtDepth k depth spans → 1 ≤ n → k.depth ≤ limit → IsRight k v spans bound depth t
    → let deeper = finer_case n root limit k in Refines (λ part place tree. IsRight deeper v part bound place tree) (finer_spans n spans) depth t refined → IsRight deeper v (finer_spans n spans) bound depth refined

-- so over the root
abbrev pub RefinedRightTrees : Type 0
RefinedRightTrees = (k : CaseData) (n limit v : ℕ) (bound : Bound) (t refined : Tree) → IsCase k → 1 ≤ n → k.depth ≤ limit → IsRightTree k v bound t
    → let deeper = deeper_case n limit k in Refines (λ part place tree. IsRight deeper v part bound place tree) deeper.root 0 t refined → IsRightTree deeper v bound refined

-- A certified tree is a base in a case that may be halved more often: its leaves that decide keep their certificates, and its splits stand where they may.
abbrev pub CertifiedTreesAreBases : Type 0
CertifiedTreesAreBases = (k : CaseData) (spans root : Spans) (n limit : ℕ) (bound : Bound) (depth : ℕ) (t : Tree) → IsCase k → IsAtDepth k depth spans → 1 ≤ n → k.depth ≤ limit
    → IsCertified k bound spans depth t → IsBase (finer_case n root limit k) bound (finer_spans n spans) depth t

-- a right tree is certified
abbrev pub RightTreesAreCertified : Type 0
RightTreesAreCertified = (k : CaseData) (v : ℕ) (bound : Bound) (spans : Spans) (depth : ℕ) (t : Tree) → IsRight k v spans bound depth t → IsCertified k bound spans depth t

-- So a base with right trees in the place of its unknown leaves is certified.
abbrev pub BasesWithRightTreesAreCertified : Type 0
BasesWithRightTreesAreCertified = (k : CaseData) (v : ℕ) (bound : Bound) (spans : Spans) (depth : ℕ) (t refined : Tree) → IsBase k bound spans depth t
    → Refines (λ part place tree. IsRight k v part bound place tree) spans depth t refined → IsCertified k bound spans depth refined
