-- What decides a rectangle for a number of steps: the leaves of the right tree, and that of a verdict with the vectors and choices that stand in the lanes.
use Rattle.std.specs.Prelude.{ℕ, List, ℤ, Option, MatchOption}
use Rattle.lift_grid.specs.Rectangle.{Spans}
use Rattle.corner_lift.specs.Case.{CaseData}
use Rattle.lift_walk.specs.Halved.{Halved, IsRightBy}
use Rattle.lift_cert.specs.declared.bound.Bound.{Bound}
use Rattle.lift_bounded.specs.Steps.{AreAccepting, AreLeastUppers, LowersData, AreRejecting, AreGreatestLowers, NoneAccept, NoneReject}
use Rattle.lift_bounded.specs.declared.decision.Verdict.{Verdict}
use Rattle.lift_bounded.specs.declared.decision.Verdict.TheVariants.{Accept, Reject}

-- a decided leaf: the vectors of an accepting certificate by steps, or a rejecting one
pub data BoundedLeaf : Type 0 where
  accept : List (List ℤ) → BoundedLeaf
  reject : LowersData → BoundedLeaf

-- the leaf decides the rectangle: by the least upper vectors where an accepting certificate exists, and by the greatest lower ones where none does and a rejecting one exists
abbrev pub DecidesWithin : CaseData → Bound → ℕ → Spans → BoundedLeaf → Type 0
DecidesWithin k bound h spans (BoundedLeaf.accept xs) = AreAccepting k spans bound h xs × AreLeastUppers k spans h xs
DecidesWithin k bound h spans (BoundedLeaf.reject r) = NoneAccept k spans bound h × AreRejecting k spans bound h r × AreGreatestLowers k spans h r

-- there is no certificate of either kind
abbrev pub IsOpenWithin : CaseData → Bound → ℕ → Spans → Type 0
IsOpenWithin k bound h spans = NoneAccept k spans bound h × NoneReject k spans bound h

-- the right tree over a rectangle at a depth, for h steps
abbrev pub IsRightWithin : CaseData → Bound → ℕ → Spans → ℕ → Halved BoundedLeaf → Type 0
IsRightWithin k bound h spans depth tree = IsRightBy (DecidesWithin k bound h) (IsOpenWithin k bound h) k spans depth tree

-- the leaf of a verdict, with the vectors and choices that stand in the lanes
abbrev pub leaf_of : List (List ℤ) → List (List ℕ) → Verdict → BoundedLeaf
leaf_of lanes picks Accept = BoundedLeaf.accept lanes
leaf_of lanes picks Reject = BoundedLeaf.reject (record { numbers = lanes; picks = picks })

-- what is told of the rectangle for h steps is right: the leaf of a verdict decides it, and without a verdict it is open
abbrev pub IsDecidedWithin : CaseData → Spans → Bound → ℕ → List (List ℤ) → List (List ℕ) → Option Verdict → Type 0
IsDecidedWithin k spans bound h lanes picks found = MatchOption found (IsOpenWithin k bound h spans) (λ verdict. DecidesWithin k bound h spans (leaf_of lanes picks verdict))
