-- What holds of certificates, for who reasons about them.
use Rattle.std.specs.Prelude.{◌≡◌, ◌-◌, ◌*◌, ◌^◌, ◌&&◌, ℕ, Bool, not, nat_lt, List, ℤ, pos, ◌+ℤ◌, ◌*ℤ◌, ◌≤ℤ◌}
use Rattle.lift_poly.specs.Polynomial.{Valuation}
use Rattle.lift_grid.specs.Rectangle.{Spans, Inside}
use Rattle.lift_grid.specs.Tree.{RejectData}
use Rattle.corner_lift.specs.Case.{CaseData, IsCase, IsInside, Within, number}
use Rattle.corner_lift.specs.Certificate.{AtMost, IsUpper, IsLeastUpper, IsLower, unmarked, mark}
use Rattle.lift_model.specs.Process.{power}
use Rattle.lift_model.specs.Memoryless.{memoryless_reach, undecided}
use Rattle.lift_model.specs.Model.{is_goal, process_at}
use Rattle.lift_cert.specs.Bounded.{IsBoundedAt}
use Rattle.lift_cert.specs.Reached.{Follows, IsReachedAt}
use Rattle.lift_cert.specs.Certificate.{IsAccepting, IsRejecting, IsBeyond, NoneAccepts}
use Rattle.lift_cert.specs.Miss.{IsFirstAcceptMiss}
use Rattle.lift_cert.specs.RejectMiss.{IsFirstRejectMiss}
use Rattle.lift_cert.specs.declared.bound.Bound.{Bound}
use Rattle.lift_cert.specs.declared.miss.Miss.{Miss}

-- an accepting certificate of a rectangle inside a case's root bounds every scheduler, at every valuation inside the rectangle
abbrev pub AcceptingBounds : Type 0
AcceptingBounds = (k : CaseData) (spans : Spans) (bound : Bound) (x : List ℤ) → IsCase k → IsInside k.root spans → IsAccepting k spans bound x
    → (v : Valuation) → Inside k.d spans v → IsBoundedAt k.model v bound

-- where the least upper vector is beyond the bound at the initial state, no accepting certificate exists
abbrev pub LeastRefutes : Type 0
LeastRefutes = (k : CaseData) (spans : Spans) (bound : Bound) (x : List ℤ) → IsLeastUpper k spans x → IsBeyond bound k.w (number x k.model.init)
    → NoneAccepts k spans bound

-- a rejecting certificate of a rectangle inside a case's root tells what each scheduler that makes its choices reaches at least, at every valuation inside the rectangle
abbrev pub RejectingReaches : Type 0
RejectingReaches = (k : CaseData) (spans : Spans) (bound : Bound) (r : RejectData) → IsCase k → IsInside k.root spans → IsRejecting k spans bound r
    → (v : Valuation) → Inside k.d spans v → IsReachedAt k.model v k.w r

-- the states that have a rank and are no goal states
abbrev pub is_open : CaseData → RejectData → ℕ → Bool
is_open k r s = not (is_goal k.model s) && nat_lt (mark r.ranks s) unmarked

-- A lower vector's number over 2 ^ w is at most the probability that the goal is reached within n steps or the run is undecided, which means that it stays among the states that have a rank and are no goal states. In each block of k steps the undecided runs lose at least one part in 2 ^ m, m being e k.
abbrev pub LowerBounds : Type 0
LowerBounds = (k : CaseData) (spans : Spans) (r : RejectData) → IsCase k → IsInside k.root spans → IsLower k spans r
    → (v : Valuation) → Inside k.d spans v → (choice : ℕ → ℕ) → Follows k.model r.picks choice
    → let process = process_at k.model v in
    ((n s : ℕ) → (number r.numbers s *ℤ power process.total n) ≤ℤ (pos (2 ^ k.w) *ℤ (memoryless_reach process choice n s +ℤ undecided process choice (is_open k r) n s)))
    × ((j s : ℕ) → (undecided process choice (is_open k r) (r.k * j) s *ℤ pos (2 ^ (r.e * r.k * j))) ≤ℤ (pos ((2 ^ (r.e * r.k) - 1) ^ j) *ℤ power process.total (r.k * j)))

-- in a rectangle inside a case's root no lower vector is above an upper one
abbrev pub LowerIsBelowUpper : Type 0
LowerIsBelowUpper = (k : CaseData) (spans : Spans) (x : List ℤ) (r : RejectData) → IsCase k → IsInside k.root spans → IsUpper k spans x → IsLower k spans r → AtMost r.numbers x

-- so it has no certificates of both kinds, for one bound
abbrev pub NotBothKinds : Type 0
NotBothKinds = (k : CaseData) (spans : Spans) (bound : Bound) (x : List ℤ) (r : RejectData) → IsCase k → IsInside k.root spans → IsAccepting k spans bound x → IsRejecting k spans bound r → ⊥

-- Nor have two rectangles inside a case's root that share a valuation, the one an accepting and the other a rejecting certificate, for one bound: at that valuation both would tell of the same process.
abbrev pub NotBothKindsAtAValuation : Type 0
NotBothKindsAtAValuation = (k : CaseData) (spans others : Spans) (bound : Bound) (x : List ℤ) (r : RejectData) (v : Valuation) → IsCase k → IsInside k.root spans → IsInside k.root others → Inside k.d spans v → Inside k.d others v
    → IsAccepting k spans bound x → IsRejecting k others bound r → ⊥

-- the first test that fails is one
abbrev pub FirstAcceptMissIsOne : Type 0
FirstAcceptMissIsOne = (k : CaseData) (spans : Spans) (bound : Bound) (x : List ℤ) (m n : Miss) → IsFirstAcceptMiss k spans bound x m → IsFirstAcceptMiss k spans bound x n → m ≡ n

-- an accepting certificate of a rectangle inside the root passes every test
abbrev pub AcceptingMissesNone : Type 0
AcceptingMissesNone = (k : CaseData) (spans : Spans) (bound : Bound) (x : List ℤ) (m : Miss) → Within spans k.root → IsAccepting k spans bound x → IsFirstAcceptMiss k spans bound x m → ⊥

-- the first test that fails of a rejecting certificate is one
abbrev pub FirstRejectMissIsOne : Type 0
FirstRejectMissIsOne = (k : CaseData) (spans : Spans) (bound : Bound) (r : RejectData) (m n : Miss) → IsFirstRejectMiss k spans bound r m → IsFirstRejectMiss k spans bound r n → m ≡ n

-- a rejecting certificate of a rectangle inside the root passes every test
abbrev pub RejectingMissesNone : Type 0
RejectingMissesNone = (k : CaseData) (spans : Spans) (bound : Bound) (r : RejectData) (m : Miss) → Within spans k.root → IsRejecting k spans bound r → IsFirstRejectMiss k spans bound r m → ⊥
