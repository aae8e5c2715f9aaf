-- The leaves that meet a slice of a region. A slice leaves some parameters free, its axes, and gives each other one a value.
use Rattle.std.specs.Prelude.{ℕ, Bool, ◌&&◌, ◌||◌, List, ℤ, pos, ◌*ℤ◌, int_le, int_lt, slice_index_or, Option}
use Rattle.std.specs.List.{list_all}
use Rattle.std.specs.Ordering.{int_eq}
use Rattle.lift_grid.specs.Rectangle.{Spans}
use Rattle.view_map.specs.Parts.{PartData}

-- a value of a parameter: the fraction num/den
pub record CutData : Type 0 where
  pub parameter : ℕ
  pub num : ℤ
  pub den : ℤ

-- the parameters from left to right and from below up, and a value for each of the others
pub record SliceData : Type 0 where
  pub x : Option ℕ
  pub y : Option ℕ
  pub cuts : List CutData

-- a parameter's span in a rectangle
abbrev pub span_at : Spans → ℕ → ℤ × ℤ
span_at ss parameter = slice_index_or ss parameter (pos 0, pos 0)

-- A leaf's span of a parameter has the value num/den, over the grid d, in a root's span that ends at top: its low end is at most the value, and its high end above it, or the root's. So on a side that two leaves share the value belongs to the upper one.
abbrev pub has_value : ℤ → ℤ × ℤ → ℤ → ℤ → ℤ → Bool
has_value d span top num den = int_le (span.0 *ℤ den) (num *ℤ d) && (int_lt (num *ℤ d) (span.1 *ℤ den) || int_eq span.1 top)

-- a leaf has that value
abbrev pub meets : ℤ → Spans → PartData → CutData → Bool
meets d root p cut = has_value d (span_at p.spans cut.parameter) (span_at root cut.parameter).1 cut.num cut.den

-- a leaf has each of the values
abbrev pub meets_all : ℤ → Spans → List CutData → PartData → Bool
meets_all d root cuts p = list_all (meets d root p) cuts
