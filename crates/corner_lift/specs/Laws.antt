-- What holds of rows at corners and inside, for who reasons about them.
use Rattle.std.specs.Prelude.{◌≡◌, ℕ, ◌+◌, ◌^◌, ◌<◌, ◌≤◌, ℤ, pos, ◌*ℤ◌, ◌≤ℤ◌, ◌<ℤ◌, List, length, All, slice_index_or, count_ones, IsBitSet}
use Rattle.lift_poly.specs.Polynomial.{Valuation, weight, denominator}
use Rattle.lift_grid.specs.Rectangle.{Spans, AreSpans, Inside, corner_side}
use Rattle.lift_grid.specs.Splitting.{HasHalvings}
use Rattle.lift_grid.specs.Tree.{lower_half, upper_half}
use Rattle.lift_model.specs.declared.entry.Entry.{Entry}
use Rattle.lift_model.specs.Process.{power, weighted_sum}
use Rattle.lift_model.specs.Model.{ModelData, support, choices, live, row_at, moves_at, process_at}
use Rattle.lift_model.specs.Links.{targets_of}
use Rattle.corner_lift.specs.Corner.{AtCorners, corner, parameter_count, corner_weight, corner_sum, no_entry}
use Rattle.corner_lift.specs.Case.{CaseData, IsAsked, IsCase, at, IsInside, Within, SumsToOne, row_parameters, row_whole, number}
use Rattle.corner_lift.specs.Certificate.{AreNumbers, MeansAtMost, MeansAtLeast}

-- The corner bound for a single entry of a row: where its weight at each corner of the row lies from low to high, so does its weight at every valuation inside, each over its own total.
abbrev pub CornersBoundWeights : Type 0
CornersBoundWeights = (d : ℤ) (spans : Spans) (row : List Entry) (entry : ℕ) (low high : ℤ) → pos 0 <ℤ d → AreSpans spans → entry < length row
    → AtCorners spans row (λ c. low ≤ℤ corner_weight d spans row c entry)
    → AtCorners spans row (λ c. corner_weight d spans row c entry ≤ℤ high)
    → (v : Valuation) → Inside d spans v
    → ((low *ℤ denominator v) ≤ℤ (weight v (slice_index_or row entry no_entry).poly *ℤ power d (parameter_count spans (support row))))
    × ((weight v (slice_index_or row entry no_entry).poly *ℤ power d (parameter_count spans (support row))) ≤ℤ (high *ℤ denominator v))

-- a case at a lower precision is a case
abbrev pub LowerPrecisionIsCase : Type 0
LowerPrecisionIsCase = (k : CaseData) (u : ℕ) → IsCase k → 1 ≤ u → u ≤ k.w → IsCase (at k u)

-- there is such a row
pub record HasRow (k : CaseData) (s a : ℕ) : Type 0 where
  pub state : s < length k.model.states
  pub choice : a < length (choices k.model s)

-- ---- weights at corners

-- no weight of a case is negative at a corner of any rectangle inside the root
abbrev pub WeightsAreNotNegative : Type 0
WeightsAreNotNegative = (k : CaseData) (spans : Spans) (s a : ℕ) → IsCase k → IsInside k.root spans → HasRow k s a
    → AtCorners spans (row_at k.model s a) (λ c. All (λ entry. pos 0 ≤ℤ weight (corner k.d spans (support (row_at k.model s a)) c) entry.poly) (row_at k.model s a))

-- a row's weights sum to the whole at each corner of any rectangle inside the root
abbrev pub WeightsSumToWhole : Type 0
WeightsSumToWhole = (k : CaseData) (spans : Spans) (s a : ℕ) → IsCase k → IsInside k.root spans → HasRow k s a
    → AtCorners spans (row_at k.model s a) (λ c. weighted_sum (λ target. pos 1) (moves_at (corner k.d spans (support (row_at k.model s a)) c) (row_at k.model s a)) ≡ row_whole k s a)

-- a parameter of the set stands in the set's corner with the end that the corner's number chooses for it, over the grid
abbrev pub CornersChooseEnds : Type 0
CornersChooseEnds = (d : ℤ) (spans : Spans) (set c parameter : ℕ) → parameter < length spans → IsBitSet set parameter
    → slice_index_or (corner d spans set c) parameter (pos 0, pos 1) ≡ (corner_side spans set c parameter, d)

-- ---- rows at corners

-- a row has as many parameters as bits are set in its set
abbrev pub BitsAreParameters : Type 0
BitsAreParameters = (k : CaseData) (s a : ℕ) → IsAsked k → HasRow k s a → count_ones (support (row_at k.model s a)) ≡ row_parameters k (row_at k.model s a)

-- a row has the same parameters, and so as many corners and the same whole, in each rectangle inside the root
abbrev pub ParametersAreTheRoots : Type 0
ParametersAreTheRoots = (k : CaseData) (spans : Spans) (row : List Entry) → Within spans k.root → parameter_count spans (support row) ≡ row_parameters k row

-- each number of a vector lies from 0 to 2 ^ w; so does the one past its end, which is 0
abbrev pub NumbersAreInRange : Type 0
NumbersAreInRange = (k : CaseData) (x : List ℤ) (s : ℕ) → AreNumbers k x → (pos 0 ≤ℤ number x s) × (number x s ≤ℤ pos (2 ^ k.w))

-- a vector's weighted sum over a row lies from 0 to 2 ^ w times the whole, at each corner
abbrev pub SumsAreInRange : Type 0
SumsAreInRange = (k : CaseData) (spans : Spans) (s a c : ℕ) (x : List ℤ) → IsCase k → IsInside k.root spans → HasRow k s a → AreNumbers k x
    → let sum = corner_sum k.d spans (row_at k.model s a) c (number x) in (pos 0 ≤ℤ sum) × (sum ≤ℤ (pos (2 ^ k.w) *ℤ row_whole k s a))

-- where no number of a vector is above another's, no weighted sum at a corner is
abbrev pub SumsRise : Type 0
SumsRise = (k : CaseData) (spans : Spans) (s a c : ℕ) (x y : ℕ → ℤ) → IsCase k → IsInside k.root spans → HasRow k s a → ((t : ℕ) → x t ≤ℤ y t)
    → corner_sum k.d spans (row_at k.model s a) c x ≤ℤ corner_sum k.d spans (row_at k.model s a) c y

-- where no target's number is above n, no weighted sum of the row at a corner is above n times the whole
abbrev pub SumsAreAtMost : Type 0
SumsAreAtMost = (k : CaseData) (spans : Spans) (s a : ℕ) (x : ℕ → ℤ) (n : ℤ) → IsCase k → IsInside k.root spans → HasRow k s a → All (λ t. x t ≤ℤ n) (targets_of (row_at k.model s a))
    → AtCorners spans (row_at k.model s a) (λ c. corner_sum k.d spans (row_at k.model s a) c x ≤ℤ (n *ℤ row_whole k s a))

-- where none is below n, no such sum is below n times the whole
abbrev pub SumsAreAtLeast : Type 0
SumsAreAtLeast = (k : CaseData) (spans : Spans) (s a : ℕ) (x : ℕ → ℤ) (n : ℤ) → IsCase k → IsInside k.root spans → HasRow k s a → All (λ t. n ≤ℤ x t) (targets_of (row_at k.model s a))
    → AtCorners spans (row_at k.model s a) (λ c. (n *ℤ row_whole k s a) ≤ℤ corner_sum k.d spans (row_at k.model s a) c x)

-- ---- rows at valuations inside

-- at a valuation inside a rectangle inside the root no weight is negative
abbrev pub WeightsInside : Type 0
WeightsInside = (k : CaseData) (spans : Spans) (v : Valuation) → IsCase k → IsInside k.root spans → Inside k.d spans v
    → All (All (All (λ entry. pos 0 ≤ℤ weight v entry.poly))) k.model.states

-- where the polynomials of a row sum to the common denominator, its weights sum to the total at every valuation
abbrev pub SumsAreTotals : Type 0
SumsAreTotals = (m : ModelData) (row : List Entry) (v : Valuation) → SumsToOne m.common row → weighted_sum (λ target. pos 1) (moves_at v row) ≡ (process_at m v).total

-- The corner bound: where a row's weighted mean is at most a number at each of its corners, so it is at every valuation inside.
abbrev pub MeansAtMostInside : Type 0
MeansAtMostInside = (k : CaseData) (spans : Spans) (row : List Entry) (x : List ℤ) (n : ℤ) → IsCase k → IsInside k.root spans → MeansAtMost k spans row x n
    → (v : Valuation) → Inside k.d spans v → weighted_sum (number x) (moves_at v row) ≤ℤ (n *ℤ (process_at k.model v).total)

-- and where it is at least a number at each of its corners, so it is at every valuation inside
abbrev pub MeansAtLeastInside : Type 0
MeansAtLeastInside = (k : CaseData) (spans : Spans) (row : List Entry) (y : ℕ → ℤ) (n : ℤ) → IsCase k → IsInside k.root spans → MeansAtLeast k spans row y n
    → (v : Valuation) → Inside k.d spans v → (n *ℤ (process_at k.model v).total) ≤ℤ weighted_sum y (moves_at v row)

-- the root of a case lies inside itself
abbrev pub RootIsInside : Type 0
RootIsInside = (k : CaseData) → IsCase k → IsInside k.root k.root

-- where a halving is left, both halves of a rectangle inside the root lie inside it
abbrev pub HalvesAreInside : Type 0
HalvesAreInside = (root spans : Spans) (n axis : ℕ) → IsInside root spans → HasHalvings (n + 1) spans → axis < length spans
    → IsInside root (lower_half axis spans) × IsInside root (upper_half axis spans)

-- a live parameter has a span in each rectangle inside the root
abbrev pub LiveHasSpan : Type 0
LiveHasSpan = (k : CaseData) (spans : Spans) (i : ℕ) → IsCase k → IsInside k.root spans → IsBitSet (live k.model) i → i < length spans
