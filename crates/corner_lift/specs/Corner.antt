-- Parameter lifting (Quatmann, Dehnert, Jansen, Junges and Katoen, ATVA 2016): each row of a model has parameters of its own, and over a rectangle of values its extremes are at the corners. Here is what a corner of a row is, and what the row weighs there.
use Rattle.std.specs.Prelude.{ℕ, ◌+◌, ◌/◌, ◌%◌, ◌^◌, ◌<◌, ◌==◌, List, [], ◌∷◌, ℤ, pos, ◌*ℤ◌, slice_index_or, if◌then◌else◌}
use Rattle.lift_poly.specs.Polynomial.{Valuation, weight}
use Rattle.lift_grid.specs.Rectangle.{Spans, end_of}
use Rattle.lift_model.specs.Process.{power, weighted_sum}
use Rattle.lift_model.specs.declared.entry.Entry.{Entry}
use Rattle.lift_model.specs.Model.{ModelData, support, moves_at}

-- how many of the declared parameters are in the set
abbrev pub parameter_count : Spans → ℕ → ℕ
parameter_count [] set = 0
parameter_count (span ∷ spans) set = set % 2 + parameter_count spans (set / 2)

-- The corner of that number over the parameters of the set: each bit of the number, from the lowest, chooses the low or the high end of the next parameter of the set. A parameter outside the set has no part in the corner, and stands as 0 over 1.
abbrev pub corner : ℤ → Spans → ℕ → ℕ → Valuation
corner d [] set c = []
corner d (span ∷ spans) set c =
    if set % 2 == 0 then (pos 0, pos 1) ∷ corner d spans (set / 2) c else (end_of (c % 2) span, d) ∷ corner d spans (set / 2) (c / 2)

-- P holds at each corner of the row, of which there are 2 to the number of its parameters
abbrev pub AtCorners : Spans → List Entry → (ℕ → Type 0) → Type 0
AtCorners spans row P = (c : ℕ) → c < 2 ^ parameter_count spans (support row) → P c

-- stands for a place past the end of a row
abbrev pub no_entry : Entry
no_entry = record { target = 0; poly = [] }

-- The weight of the row's entry of that number at a corner of the row. Its probability there is the weight over the whole.
abbrev pub corner_weight : ℤ → Spans → List Entry → ℕ → ℕ → ℤ
corner_weight d spans row c entry = weight (corner d spans (support row) c) (slice_index_or row entry no_entry).poly

-- the sum over a row of weight times the target's number, at a corner of the row
abbrev pub corner_sum : ℤ → Spans → List Entry → ℕ → (ℕ → ℤ) → ℤ
corner_sum d spans row c number = weighted_sum number (moves_at (corner d spans (support row) c) row)

-- what the row's weights sum to at each of these corners
abbrev pub whole : ModelData → ℤ → Spans → List Entry → ℤ
whole m d spans row = m.common *ℤ power d (parameter_count spans (support row))
