-- What holds of certificates by steps, for who reasons about them.
use Rattle.std.specs.Prelude.{ℕ, ◌+◌, ◌<◌, ◌≡◌, length, List, ℤ}
use Rattle.lift_poly.specs.Polynomial.{Valuation}
use Rattle.lift_grid.specs.Rectangle.{Spans, Inside}
use Rattle.corner_lift.specs.Case.{CaseData, IsCase, IsInside, number}
use Rattle.lift_cert.specs.Certificate.{IsBeyond, IsWithin}
use Rattle.lift_cert.specs.declared.bound.Bound.{Bound}
use Rattle.lift_bounded.specs.Steps.{nth, IsStart, IsLeastStep, IsGreatestStep, AreLeastUppers, AreAccepting, LowersData, AreGreatestLowers, AreRejecting, NoneAccept, NoneReject}
use Rattle.lift_bounded.specs.Within.{IsBoundedWithin, IsReachedWithin}
use Rattle.lift_bounded.specs.Decided.{BoundedLeaf, IsRightWithin}
use Rattle.lift_walk.specs.Halved.{Halved}

-- an accepting certificate by steps of a rectangle inside a case's root bounds every scheduler, at every valuation inside the rectangle
abbrev pub AcceptingBoundsWithin : Type 0
AcceptingBoundsWithin = (k : CaseData) (spans : Spans) (bound : Bound) (h : ℕ) (xs : List (List ℤ)) → IsCase k → IsInside k.root spans → AreAccepting k spans bound h xs
    → (v : Valuation) → Inside k.d spans v → IsBoundedWithin k.model v bound h

-- a rejecting one tells what each scheduler that makes its choices reaches at least, at every valuation inside the rectangle
abbrev pub RejectingReachesWithin : Type 0
RejectingReachesWithin = (k : CaseData) (spans : Spans) (bound : Bound) (h : ℕ) (r : LowersData) → IsCase k → IsInside k.root spans → AreRejecting k spans bound h r
    → (v : Valuation) → Inside k.d spans v → IsReachedWithin k.model v bound h r.picks

-- from the vector of no step, the least step each time makes the least upper vectors
abbrev pub LeastStepsAreLeast : Type 0
LeastStepsAreLeast = (k : CaseData) (spans : Spans) (h : ℕ) (xs : List (List ℤ)) → IsCase k → IsInside k.root spans → length xs ≡ h + 1 → IsStart k (nth xs 0)
    → ((n : ℕ) → n < h → IsLeastStep k spans (nth xs n) (nth xs (n + 1))) → AreLeastUppers k spans h xs

-- and the greatest step each time makes the greatest lower ones
abbrev pub GreatestStepsAreGreatest : Type 0
GreatestStepsAreGreatest = (k : CaseData) (spans : Spans) (h : ℕ) (r : LowersData) → IsCase k → IsInside k.root spans → (length r.numbers ≡ h + 1) × (length r.picks ≡ h) → IsStart k (nth r.numbers 0)
    → ((n : ℕ) → n < h → IsGreatestStep k spans (nth r.numbers n) (nth r.numbers (n + 1)) (nth r.picks n)) → AreGreatestLowers k spans h r

-- where the last of the least upper vectors is beyond the bound at the initial state, no accepting certificate by steps exists
abbrev pub LeastUppersRefute : Type 0
LeastUppersRefute = (k : CaseData) (spans : Spans) (bound : Bound) (h : ℕ) (xs : List (List ℤ)) → AreLeastUppers k spans h xs → IsBeyond bound k.w (number (nth xs h) k.model.init) → NoneAccept k spans bound h

-- where the last of the greatest lower vectors is within the bound there, no rejecting one exists
abbrev pub GreatestLowersRefute : Type 0
GreatestLowersRefute = (k : CaseData) (spans : Spans) (bound : Bound) (h : ℕ) (r : LowersData) → AreGreatestLowers k spans h r → IsWithin bound k.w (number (nth r.numbers h) k.model.init) → NoneReject k spans bound h

-- ---- there is one, and no other

-- a rectangle inside the root has a list of least upper vectors for each number of steps
abbrev pub LeastUppersExist : Type 0
LeastUppersExist = (k : CaseData) (spans : Spans) (h : ℕ) → IsCase k → IsInside k.root spans → (xs : List (List ℤ)) × AreLeastUppers k spans h xs

-- and one of greatest lower vectors, with a list of picks for each
abbrev pub GreatestLowersExist : Type 0
GreatestLowersExist = (k : CaseData) (spans : Spans) (h : ℕ) → IsCase k → IsInside k.root spans → (r : LowersData) × AreGreatestLowers k spans h r

-- a case has a right tree for each bound and each number of steps
abbrev pub BoundedTreesExist : Type 0
BoundedTreesExist = (k : CaseData) (bound : Bound) (h : ℕ) → IsCase k → (tree : Halved BoundedLeaf) × IsRightWithin k bound h k.root 0 tree

-- a rectangle has at most one list of least upper vectors for a number of steps
abbrev pub LeastUppersAreOne : Type 0
LeastUppersAreOne = (k : CaseData) (spans : Spans) (h : ℕ) (xs ys : List (List ℤ)) → AreLeastUppers k spans h xs → AreLeastUppers k spans h ys → xs ≡ ys

-- and at most one of greatest lower vectors, with one list of picks for each
abbrev pub GreatestLowersAreOne : Type 0
GreatestLowersAreOne = (k : CaseData) (spans : Spans) (h : ℕ) (r q : LowersData) → AreGreatestLowers k spans h r → AreGreatestLowers k spans h q → r ≡ q

-- a case has at most one right tree for a bound and a number of steps
abbrev pub BoundedTreesAreOne : Type 0
BoundedTreesAreOne = (k : CaseData) (bound : Bound) (h : ℕ) (tree other : Halved BoundedLeaf) → IsRightWithin k bound h k.root 0 tree → IsRightWithin k bound h k.root 0 other → tree ≡ other
