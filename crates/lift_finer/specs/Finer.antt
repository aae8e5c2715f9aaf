-- A finer grid: the grid's number and all ends are multiplied by the same number, so that each value stays what it is.
use Rattle.std.specs.Prelude.{ℕ, ◌≤◌, ◌^◌, ◌&&◌, Bool, List, ℤ, pos, ◌*ℤ◌, map, ◌↔◌, Some, None, if◌then◌else◌, nat_lt, unsigned_abs}
use Rattle.std.specs.declared.option.Option.{Option}
use Rattle.std.specs.List.{list_all}
use Rattle.lift_frac.specs.Limits.{size_limit}
use Rattle.lift_grid.specs.Rectangle.{Spans}
use Rattle.lift_grid.specs.Region.{Region, is_narrow}
use Rattle.corner_lift.specs.Case.{CaseData}

-- the same spans over a grid n times as fine
abbrev pub finer_spans : ℕ → Spans → Spans
finer_spans n spans = map (λ span. (span.0 *ℤ pos n, span.1 *ℤ pos n)) spans

-- the case over a grid n times as fine, with a root and a depth of its own
abbrev pub finer_case : ℕ → Spans → ℕ → CaseData → CaseData
finer_case n root depth k = record k { root = root; d = k.d *ℤ pos n; depth = depth }

-- What P says of a rectangle of a case depends neither on how fine the grid is, nor on the root, nor on the depth: it says the same of the rectangle over a grid n times as fine.
abbrev pub KnowsNoGrid : (CaseData → Spans → Type 0) → Type 0
KnowsNoGrid P = (k : CaseData) (spans root : Spans) (n depth : ℕ) → 1 ≤ n → P k spans ↔ P (finer_case n root depth k) (finer_spans n spans)

-- ---- numbers over a finer grid

-- how much finer a grid can be asked for
abbrev pub most_finer : ℕ
most_finer = 2 ^ 20

-- the size is below the limit
abbrev pub is_small : ℤ → Bool
is_small z = nat_lt (unsigned_abs z) size_limit

-- the number over a grid n times as fine; none where it is too large
abbrev pub finer_number : ℕ → ℤ → Option ℤ
finer_number n z = if is_small (z *ℤ pos n) then Some (z *ℤ pos n) else None

-- so of ends in a row
abbrev pub finer_sides : ℕ → List ℤ → Option (List ℤ)
finer_sides n sides = let finer = map (λ z. z *ℤ pos n) sides in if list_all is_small finer then Some finer else None

-- the region over a grid n times as fine, each of whose spans may be halved so often
abbrev pub finer_region : ℕ → ℕ → Region → Region
finer_region n depth r = record { d = r.d *ℤ pos n; depth = depth; spans = finer_spans n r.spans }

-- none where the grid's number or an end is too large
abbrev pub finer_within : ℕ → ℕ → Region → Option Region
finer_within n depth r = let finer = finer_region n depth r in if is_small finer.d && list_all is_narrow finer.spans then Some finer else None
