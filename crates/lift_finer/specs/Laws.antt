-- What a grid n times as fine leaves as it is, for who reasons about it.
use Rattle.std.specs.Prelude.{◌≡◌, ℕ, ◌+◌, ◌^◌, ◌≤◌, List, ℤ, pos, ◌*ℤ◌, ◌≤ℤ◌, ◌↔◌, Ok}
use Rattle.lift_grid.specs.Rectangle.{Spans}
use Rattle.lift_grid.specs.Region.{Region, region}
use Rattle.lift_grid.specs.Splitting.{IsSplitAxis, IsHalvable}
use Rattle.lift_grid.specs.Tree.{Tree, RejectData, lower_half, upper_half}
use Rattle.lift_model.specs.declared.entry.Entry.{Entry}
use Rattle.lift_model.specs.Process.{power}
use Rattle.lift_model.specs.Model.{ModelData, support}
use Rattle.corner_lift.specs.Corner.{AtCorners, parameter_count, corner_weight, corner_sum, whole}
use Rattle.corner_lift.specs.Case.{CaseData, SumsToOne, row_parameters, most_row_parameters, IsNowhereNegative, IsAdmittedRow}
use Rattle.corner_lift.specs.Certificate.{MeansAtMost, MeansAtLeast, IsUpper, IsLeastUpper, IsRate, IsLower}
use Rattle.corner_lift.specs.Stages.{IsAllowed, LeadsBelow, AreStages, IsGreatestLower}
use Rattle.lift_cert.specs.declared.bound.Bound.{Bound}
use Rattle.lift_cert.specs.Certificate.{IsAccepting, IsRejecting, NoneAccepts}
use Rattle.lift_finer.specs.Refined.{Refines, IsCertified, IsBase}
use Rattle.lift_finer.specs.Finer.{finer_spans, finer_case, KnowsNoGrid}

-- ---- weights

-- a set has as many of the declared parameters
abbrev pub ParametersStay : Type 0
ParametersStay = (n : ℕ) (spans : Spans) (set : ℕ) → parameter_count (finer_spans n spans) set ≡ parameter_count spans set

-- weights at corners are homogeneous: each parameter of the row brings a factor n
abbrev pub WeightsAreHomogeneous : Type 0
WeightsAreHomogeneous = (d : ℤ) (n : ℕ) (spans : Spans) (row : List Entry) (c entry : ℕ)
    → corner_weight (d *ℤ pos n) (finer_spans n spans) row c entry ≡ corner_weight d spans row c entry *ℤ power (pos n) (parameter_count spans (support row))

-- so are their sums over a row
abbrev pub SumsAreHomogeneous : Type 0
SumsAreHomogeneous = (d : ℤ) (n : ℕ) (spans : Spans) (row : List Entry) (c : ℕ) (number : ℕ → ℤ)
    → corner_sum (d *ℤ pos n) (finer_spans n spans) row c number ≡ corner_sum d spans row c number *ℤ power (pos n) (parameter_count spans (support row))

-- and the whole
abbrev pub WholesAreHomogeneous : Type 0
WholesAreHomogeneous = (m : ModelData) (d : ℤ) (n : ℕ) (spans : Spans) (row : List Entry)
    → whole m (d *ℤ pos n) (finer_spans n spans) row ≡ whole m d spans row *ℤ power (pos n) (parameter_count spans (support row))

-- ---- rows and regions

-- Of a row that is admitted, all stays but for whether it is narrow: its polynomials sum to the common denominator, few parameters occur in it, and no entry weighs less than 0 at a corner of the root.
abbrev pub AdmittedRowsStay : Type 0
AdmittedRowsStay = (k : CaseData) (n depth : ℕ) (row : List Entry) → 1 ≤ n → IsAdmittedRow k row
    → let finer = finer_case n (finer_spans n k.root) depth k in SumsToOne finer.model.common row × (row_parameters finer row ≤ most_row_parameters) × IsNowhereNegative finer row

-- where a text names a region at two depths, the one is that of the other over a grid that is finer by a power of two
abbrev pub RegionsAreFiner : Type 0
RegionsAreFiner = (names : List (List ℕ)) (depth more : ℕ) (text : List ℕ) (r finer : Region) → region names depth text ≡ Ok r → region names (depth + more) text ≡ Ok finer
    → finer ≡ record { d = r.d *ℤ pos (2 ^ more); depth = depth + more; spans = finer_spans (2 ^ more) r.spans }

-- ---- what weights say

-- whether a row's weighted mean is at most a number at each corner
abbrev pub MostMeansStay : Type 0
MostMeansStay = (row : List Entry) (x : List ℤ) (n : ℤ) → KnowsNoGrid (λ k spans. MeansAtMost k spans row x n)

-- whether it is at least a number
abbrev pub LeastMeansStay : Type 0
LeastMeansStay = (row : List Entry) (y : ℕ → ℤ) (n : ℤ) → KnowsNoGrid (λ k spans. MeansAtLeast k spans row y n)

-- whether a row's weighted sum, times a number, is at least the whole at each corner
abbrev pub SharesStay : Type 0
SharesStay = (row : List Entry) (y : ℕ → ℤ) (n : ℤ) → KnowsNoGrid (λ k spans. AtCorners spans row (λ c. whole k.model k.d spans row ≤ℤ (corner_sum k.d spans row c y *ℤ n)))

-- so whether that is a rate
abbrev pub RatesStay : Type 0
RatesStay = (r : RejectData) (e s : ℕ) → KnowsNoGrid (λ k spans. IsRate k spans r e s)

-- whether a choice leads, with positive weight at each corner, into states of a rank below r
abbrev pub LeadsStay : Type 0
LeadsStay = (rank : ℕ → ℕ) (r s a : ℕ) → KnowsNoGrid (λ k spans. LeadsBelow k spans rank r s a)

-- ---- vectors

-- the upper vectors
abbrev pub UppersStay : Type 0
UppersStay = (x : List ℤ) → KnowsNoGrid (λ k spans. IsUpper k spans x)

-- the least one
abbrev pub LeastUppersStay : Type 0
LeastUppersStay = (x : List ℤ) → KnowsNoGrid (λ k spans. IsLeastUpper k spans x)

-- the lower vectors
abbrev pub LowersStay : Type 0
LowersStay = (r : RejectData) → KnowsNoGrid (λ k spans. IsLower k spans r)

-- the stages of ranks that a vector allows
abbrev pub StagesStay : Type 0
StagesStay = (y : ℕ → ℤ) (pick rank : ℕ → ℕ) → KnowsNoGrid (λ k spans. AreStages k spans (IsAllowed k spans y) pick rank)

-- the greatest lower vector, with its ranks, its choices, its e and its k
abbrev pub GreatestLowersStay : Type 0
GreatestLowersStay = (r : RejectData) → KnowsNoGrid (λ k spans. IsGreatestLower k spans r)

-- ---- certificates

-- the accepting certificates
abbrev pub AcceptingStays : Type 0
AcceptingStays = (bound : Bound) (x : List ℤ) → KnowsNoGrid (λ k spans. IsAccepting k spans bound x)

-- the rejecting ones
abbrev pub RejectingStays : Type 0
RejectingStays = (bound : Bound) (r : RejectData) → KnowsNoGrid (λ k spans. IsRejecting k spans bound r)

-- whether there is an accepting one
abbrev pub NoneAcceptsStays : Type 0
NoneAcceptsStays = (bound : Bound) → KnowsNoGrid (λ k spans. NoneAccepts k spans bound)

-- ---- halves

-- the axis of the split rule
abbrev pub SplitAxesStay : Type 0
SplitAxesStay = (live n : ℕ) (spans : Spans) (i : ℕ) → 1 ≤ n → IsSplitAxis live spans i ↔ IsSplitAxis live (finer_spans n spans) i

-- the halves, where the span of the axis can be halved
abbrev pub HalvesStay : Type 0
HalvesStay = (n axis : ℕ) (spans : Spans) → IsHalvable axis spans
    → (lower_half axis (finer_spans n spans) ≡ finer_spans n (lower_half axis spans)) × (upper_half axis (finer_spans n spans) ≡ finer_spans n (upper_half axis spans))

-- ---- trees

-- Where a tree refines a base with certified trees, it is certified.
abbrev pub RefinedBasesAreCertified : Type 0
RefinedBasesAreCertified = (k : CaseData) (bound : Bound) (spans : Spans) (depth : ℕ) (t refined : Tree) → IsBase k bound spans depth t → Refines (IsCertified k bound) spans depth t refined → IsCertified k bound spans depth refined
