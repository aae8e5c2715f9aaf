-- The field of a picture: a rectangle for each leaf that meets the slice, on a canvas of 2^20 by 2^20 units.
use Rattle.std.specs.Prelude.{ℕ, ◌+◌, ◌*◌, ◌-◌, ◌/◌, ◌^◌, min, max, ◌&&◌, nat_le, Bool, List, [], ◌++◌, ℤ, ◌-ℤ◌, unsigned_abs, codes, filter, flat_map, Option, Some, None, if◌then◌else◌}
use Rattle.std.specs.Fmt.{decimal}
use Rattle.lift_grid.specs.Rectangle.{Spans}
use Rattle.view_map.specs.Parts.{PartData, MapData}
use Rattle.view_map.specs.Share.{is_kind}
use Rattle.view_map.specs.Slice.{SliceData, span_at, meets_all}
use Rattle.view_text.specs.declared.layer.Layer.{Layer}
use Rattle.view_text.specs.declared.layer.Layer.TheVariants.{Leaves, Borders}

-- how many units the canvas has in each direction
abbrev pub canvas : ℕ
canvas = 2 ^ 20

-- where a number of the root's span stands on the canvas
abbrev pub canvas_place : ℤ × ℤ → ℤ → ℕ
canvas_place span z = min (unsigned_abs (z -ℤ span.0) * canvas / max (unsigned_abs (span.1 -ℤ span.0)) 1) canvas

-- from where to where a leaf reaches along an axis: all along where no parameter lies on it
abbrev pub band : Spans → Option ℕ → PartData → ℕ × ℕ
band root None p = (0, canvas)
band root (Some axis) p = let root_span = span_at root axis in
    let span = span_at p.spans axis in
    (canvas_place root_span span.0, canvas_place root_span span.1)

-- a rectangle: its left and right end, and its lower and upper end; the canvas counts from above down
abbrev pub outline : ℕ × ℕ → ℕ × ℕ → List ℕ
outline x y =
    codes "M" ++ decimal x.0 ++ codes " " ++ decimal (canvas - y.0)
    ++ codes "H" ++ decimal x.1
    ++ codes "V" ++ decimal (canvas - y.1)
    ++ codes "H" ++ decimal x.0 ++ codes "z"

-- a leaf's rectangle
abbrev pub leaf_outline : Spans → Option ℕ → Option ℕ → PartData → List ℕ
leaf_outline root x y p = outline (band root x p) (band root y p)

-- a band is so wide that two borders leave most of it to be seen: 1/64 of the canvas
abbrev pub is_wide : ℕ × ℕ → Bool
is_wide b = nat_le (b.0 + 2 ^ 14) b.1

-- which leaves a layer is of: those of a kind, or those that have a border, being wide both ways
abbrev pub is_of : MapData → SliceData → Layer → PartData → Bool
is_of m s (Leaves kind) p = is_kind kind p.kind
is_of m s Borders p = is_wide (band m.head.asked.root s.x p) && is_wide (band m.head.asked.root s.y p)

-- whether a leaf is one of a layer's and meets a slice
abbrev pub is_shown : MapData → SliceData → Layer → PartData → Bool
is_shown m s layer p = is_of m s layer p && meets_all m.head.asked.d m.head.asked.root s.cuts p

-- the leaves of a layer that meet a slice, in their order
abbrev pub shown : MapData → SliceData → Layer → List PartData
shown m s layer = filter (is_shown m s layer) m.parts

-- their rectangles
abbrev pub outlines : MapData → SliceData → Layer → List ℕ
outlines m s layer = flat_map (leaf_outline m.head.asked.root s.x s.y) (shown m s layer)

-- ---- for the contract of a private function

-- a leaf's rectangle where it is one of that layer's and meets the slice, and else nothing
abbrev pub shown_outline : MapData → SliceData → Layer → PartData → List ℕ
shown_outline m s layer p = if is_shown m s layer p then leaf_outline m.head.asked.root s.x s.y p else []
