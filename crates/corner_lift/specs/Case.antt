-- A case: a model with a rectangle of values for its parameters, over a grid and at a precision, in which each row is a distribution and no number of the engine leaves 128 bits.
use Rattle.std.specs.Prelude.{◌≡◌, ℕ, ◌*◌, ◌^◌, ◌<◌, ◌≤◌, ◌==◌, max, List, [], ◌∷◌, ℤ, pos, ◌+ℤ◌, ◌*ℤ◌, ◌≤ℤ◌, unsigned_abs, length, slice_index_or, sum_by, All, if◌then◌else◌}
use Rattle.lift_poly.specs.Polynomial.{Valuation, weight}
use Rattle.lift_poly.specs.Arithmetic as polynomial
use Rattle.lift_grid.specs.Rectangle.{Spans, Inside, AreSpans, AreSides, IsOnGrid, spans_of}
pub use Rattle.lift_grid.specs.Rectangle.{most_halvings}
use Rattle.lift_grid.specs.Region.{Region}
use Rattle.lift_model.specs.declared.entry.Entry.{Entry}
use Rattle.lift_model.specs.Process.{weighted_sum}
use Rattle.lift_model.specs.Model.{ModelData, support, live, row_at, moves_at, process_at}
use Rattle.lift_model.specs.Valid.{IsRow, IsModel}
use Rattle.corner_lift.specs.Corner.{AtCorners, corner, parameter_count, corner_sum, whole}

-- ---- what a case is

-- the model, the spans of its parameters (the root) over the grid d, how often the root may be halved, and the precision w of its certificates
pub record CaseData : Type 0 where
  pub model : ModelData
  pub root : Spans
  pub d : ℤ
  pub depth : ℕ
  pub w : ℕ

-- the case of a model over a region, at a precision
abbrev pub case_of : ModelData → Region → ℕ → CaseData
case_of m r w = record { model = m; root = r.spans; d = r.d; depth = r.depth; w = w }

-- the same case at the precision u
abbrev pub at : CaseData → ℕ → CaseData
at k u = record k { w = u }

-- the greatest precision, by our own profile
abbrev pub most_precision : ℕ
most_precision = 40

-- What may be asked to be admitted: a valid model, a root on the grid with a span for each declared parameter, a depth and a precision within their limits.
pub record IsAsked (k : CaseData) : Type 0 where
  pub model : IsModel k.model
  pub spans : AreSpans k.root
  pub grid : IsOnGrid k.d k.depth (length k.model.names) k.root
  pub depth : k.depth ≤ most_halvings
  pub precision : (1 ≤ k.w) × (k.w ≤ most_precision)

-- how many parameters occur in the row
abbrev pub row_parameters : CaseData → List Entry → ℕ
row_parameters k row = parameter_count k.root (support row)

-- how many parameters may occur in a row, by our own profile: a row then has at most 16 corners
abbrev pub most_row_parameters : ℕ
most_row_parameters = 4

-- the coefficient at a set of what a row's polynomials sum to
abbrev pub row_coefficient : ℕ → List Entry → ℤ
row_coefficient set [] = pos 0
row_coefficient set (entry ∷ row) = polynomial.coefficient set entry.poly +ℤ row_coefficient set row

-- what the coefficients at a set are to sum to over a row: the common denominator at the empty set, and 0 at any other
abbrev pub due : ℤ → ℕ → ℤ
due common set = if set == 0 then common else pos 0

-- the row's polynomials sum to the common denominator, so its probabilities sum to exactly 1, whatever the parameters' values
abbrev pub SumsToOne : ℤ → List Entry → Type 0
SumsToOne common row = (set : ℕ) → row_coefficient set row ≡ due common set

-- the greatest size among the grid's number and all ends
abbrev pub greatest_size : ℤ → Spans → ℕ
greatest_size d [] = unsigned_abs d
greatest_size d (span ∷ spans) = max (max (unsigned_abs span.0) (unsigned_abs span.1)) (greatest_size d spans)

-- the sum of the sizes of a row's coefficients
abbrev pub abs_sum : List Entry → ℕ
abs_sum row = sum_by (λ entry. polynomial.abs_sum entry.poly) row

-- every number that the engine forms has a size below this, so that 128 bits hold it
abbrev pub engine_limit : ℕ
engine_limit = 2 ^ 126

-- the row is narrow: products and sums of its weights with a vector's numbers stay below the engine's limit, on the root and on every rectangle inside it
abbrev pub IsNarrow : CaseData → List Entry → Type 0
IsNarrow k row = abs_sum row * greatest_size k.d k.root ^ row_parameters k row * 2 ^ k.w < engine_limit

-- no entry of the row weighs less than 0 at a corner of the root
abbrev pub IsNowhereNegative : CaseData → List Entry → Type 0
IsNowhereNegative k row = AtCorners k.root row (λ c. All (λ entry. pos 0 ≤ℤ weight (corner k.d k.root (support row) c) entry.poly) row)

-- a row is admitted: it sums to one, few parameters occur in it, it is narrow, and it is nowhere negative
pub record IsAdmittedRow (k : CaseData) (row : List Entry) : Type 0 where
  pub sum : SumsToOne k.model.common row
  pub few : row_parameters k row ≤ most_row_parameters
  pub narrow : IsNarrow k row
  pub least : IsNowhereNegative k row

-- each row of each state is admitted
abbrev pub IsAdmitted : CaseData → Type 0
IsAdmitted k = All (All (IsAdmittedRow k)) k.model.states

-- a case: what may be asked, and is admitted
pub record IsCase (k : CaseData) : Type 0 where
  pub asked : IsAsked k
  pub admitted : IsAdmitted k

-- ---- rectangles inside the root

-- the greatest depth of a rectangle: 0 where no parameter is live, and else the depth that was asked for
abbrev pub greatest_depth : CaseData → ℕ
greatest_depth k = if live k.model == 0 then 0 else k.depth

-- each span lies in the root's span of the same parameter
abbrev pub Within : Spans → Spans → Type 0
Within [] [] = Unit {0}
Within (s ∷ spans) (r ∷ root) = (r.0 ≤ℤ s.0) × (s.1 ≤ℤ r.1) × Within spans root
Within _ _ = ⊥

-- the rectangle lies inside the root
pub record IsInside (root spans : Spans) : Type 0 where
  pub rectangle : AreSpans spans
  pub within : Within spans root

-- the sides of a rectangle that lies inside the root
pub record AreSidesInside (root : Spans) (sides : List ℤ) : Type 0 where
  pub rectangle : AreSides sides
  pub within : Within (spans_of sides) root

-- ---- rows at corners and inside

-- a row of the model, valid and admitted
pub record IsRowOf (k : CaseData) (row : List Entry) : Type 0 where
  pub valid : IsRow (length k.model.states) (length k.model.names) row
  pub admitted : IsAdmittedRow k row

-- the number of a state in a vector
abbrev pub number : List ℤ → ℕ → ℤ
number x s = slice_index_or x s (pos 0)

-- how many corners a state's choice has
abbrev pub corner_count : CaseData → ℕ → ℕ → ℕ
corner_count k s a = 2 ^ row_parameters k (row_at k.model s a)

-- what the choice's weights sum to at each of its corners
abbrev pub row_whole : CaseData → ℕ → ℕ → ℤ
row_whole k s a = whole k.model k.d k.root (row_at k.model s a)

-- the weighted sum of a vector over the choice, at a corner of it in that rectangle
abbrev pub row_value : CaseData → Spans → ℕ → ℕ → List ℤ → ℕ → ℤ
row_value k spans s a x c = corner_sum k.d spans (row_at k.model s a) c (number x)

-- the greatest of so many values
pub record IsGreatest (value : ℕ → ℤ) (count : ℕ) (z : ℤ) : Type 0 where
  pub most : (c : ℕ) → c < count → value c ≤ℤ z
  pub attained : (c : ℕ) × ((c < count) × (z ≡ value c))

-- the least of so many values
pub record IsLeast (value : ℕ → ℤ) (count : ℕ) (z : ℤ) : Type 0 where
  pub least : (c : ℕ) → c < count → z ≤ℤ value c
  pub attained : (c : ℕ) × ((c < count) × (z ≡ value c))

-- what the vector's weighted sum over the choice is at a valuation, over the process's total
abbrev pub sum_at : CaseData → ℕ → ℕ → List ℤ → Valuation → ℤ
sum_at k s a x v = weighted_sum (number x) (moves_at v (row_at k.model s a))

-- At every valuation inside the rectangle the weighted mean is at most z over the whole. Multiplied out, as the one sum stands over the process's total and the other over the whole.
abbrev pub BoundsAbove : CaseData → Spans → ℕ → ℕ → List ℤ → ℤ → Type 0
BoundsAbove k spans s a x z = (v : Valuation) → Inside k.d spans v → (sum_at k s a x v *ℤ row_whole k s a) ≤ℤ (z *ℤ (process_at k.model v).total)

-- at every valuation inside the rectangle the weighted mean is at least z over the whole
abbrev pub BoundsBelow : CaseData → Spans → ℕ → ℕ → List ℤ → ℤ → Type 0
BoundsBelow k spans s a x z = (v : Valuation) → Inside k.d spans v → (z *ℤ (process_at k.model v).total) ≤ℤ (sum_at k s a x v *ℤ row_whole k s a)
