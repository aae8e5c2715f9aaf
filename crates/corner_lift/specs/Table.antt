-- Tables of corner weights: the weights of all rows of a case at the corners of a rectangle, made once for it. Rows with the same polynomials share a block of weights.
use Rattle.std.specs.Prelude.{◌≡◌, ℕ, zero, suc, ◌*◌, ◌^◌, ◌<◌, ◌≤◌, List, [], ◌∷◌, ◌++◌, ℤ, pos, ◌≤ℤ◌, ◌<ℤ◌, ◌-◌, unsigned_abs, map}
use Rattle.lift_poly.specs.Polynomial.{weight}
use Rattle.lift_grid.specs.Rectangle.{Spans}
use Rattle.lift_model.specs.declared.entry.Entry.{Entry}
use Rattle.lift_model.specs.Model.{ModelData, support, row_at}
use Rattle.lift_model.specs.Links.{LinksData, ArePlaces, HasChoice, Firsts, first_row}
use Rattle.corner_lift.specs.Corner.{corner, parameter_count, corner_sum}
use Rattle.corner_lift.specs.Case.{CaseData, IsInside, row_whole, engine_limit}
use Rattle.corner_lift.specs.Dot.{only_at}

-- the weights of a row at a corner, entry by entry
abbrev pub corner_weights : ℤ → Spans → List Entry → ℕ → List ℤ
corner_weights d spans row c = map (λ entry. weight (corner d spans (support row) c) entry.poly) row

-- the weights of a row at its first corners, so many, corner by corner
abbrev pub first_corners : ℤ → Spans → List Entry → ℕ → List ℤ
first_corners d spans row zero = []
first_corners d spans row (suc c) = first_corners d spans row c ++ corner_weights d spans row c

-- the block of a row: its weights at all its corners
abbrev pub block : ℤ → Spans → List Entry → List ℤ
block d spans row = first_corners d spans row (2 ^ parameter_count spans (support row))

-- the blocks of these rows, one after another
abbrev pub blocks : ModelData → ℤ → Spans → Firsts → List ℤ
blocks m d spans [] = []
blocks m d spans (first ∷ firsts) = block d spans (first_row m first) ++ blocks m d spans firsts

-- the table of a rectangle
abbrev pub table : CaseData → LinksData → Spans → List ℤ
table k l spans = blocks k.model k.d spans l.firsts

-- the weights are the table of the rectangle, which lies inside the root
pub record IsTable (k : CaseData) (l : LinksData) (spans : Spans) (weights : List ℤ) : Type 0 where
  pub inside : IsInside k.root spans
  pub same : weights ≡ table k l spans

-- A row's weights can be read: the places are those of the case's model, the weights are the table of a rectangle, and there is such a row.
pub record CanRead (k : CaseData) (l : LinksData) (spans : Spans) (weights : List ℤ) (s a : ℕ) : Type 0 where
  pub places : ArePlaces k.model l
  pub table : IsTable k l spans weights
  pub row : HasChoice k.model s a

-- What the row's weights sum to at each of its corners: from 1 on, and no number up to 2^w times it leaves the engine's limit.
pub record IsWhole (k : CaseData) (s a : ℕ) (sum : ℤ) : Type 0 where
  pub value : sum ≡ row_whole k s a
  pub positive : pos 1 ≤ℤ sum
  pub size : unsigned_abs sum < engine_limit
  pub room : (n : ℕ) → n ≤ 2 ^ k.w → n * unsigned_abs sum < engine_limit

-- 64 bits hold each weighted sum of the row: its whole, times 2^w, is below 2^63
abbrev pub HasShortSums : CaseData → ℕ → ℕ → Type 0
HasShortSums k s a = row_whole k s a <ℤ pos (2 ^ (63 - k.w))

-- the weight of the row's self loop at a corner: what it weighs into the state that has it
abbrev pub loop_weight : CaseData → Spans → ℕ → ℕ → ℕ → ℤ
loop_weight k spans s a c = corner_sum k.d spans (row_at k.model s a) c (only_at s)
