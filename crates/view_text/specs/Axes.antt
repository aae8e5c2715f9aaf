-- The axes of a picture: names, ends and ticks, and the values of the other parameters.
use Rattle.std.specs.Prelude.{ℕ, ◌+◌, ◌*◌, ◌-◌, nat_le, max, List, [], ◌∷◌, ◌++◌, ℤ, pos, ◌+ℤ◌, ◌-ℤ◌, ◌*ℤ◌, unsigned_abs, codes, take, drop, length, slice_index_or, Bool, false, ◌||◌, Option, Some, None, is_some, if◌then◌else◌}
use Rattle.std.specs.Fmt.{decimal}
use Rattle.cert_text.specs.Head.{HeadData}
use Rattle.view_map.specs.Slice.{CutData, span_at}
use Rattle.view_text.specs.Numbers.{fraction_text, decimal_text}
use Rattle.view_text.specs.Style.{name_start, ends_start, ticks_start, tick_start, group_end, rounded_note, cut_start, text_end}
use Rattle.view_text.specs.declared.axis.Axis.{Axis}
use Rattle.view_text.specs.declared.decimal.Places.{Places}
use Rattle.view_text.specs.declared.decimal.Places.TheVariants.{Three, Six, Nine}

-- ---- names

-- the name of a parameter
abbrev pub parameter_name : HeadData → ℕ → List ℕ
parameter_name h parameter = slice_index_or h.asked.model.names parameter []

-- a name of more than 24 bytes without its middle, in whose place three dots stand
abbrev pub short_name : List ℕ → List ℕ
short_name name = if nat_le (length name) 24 then name else take 11 name ++ (codes "&#8230;" ++ drop (length name - 12) name)

-- a parameter's name as it is shown: whole for who points at it, and short
abbrev pub name_label : HeadData → ℕ → List ℕ
name_label h parameter = codes "<title>" ++ (parameter_name h parameter ++ (codes "</title>" ++ short_name (parameter_name h parameter)))

-- ---- ends

-- an end of a parameter's span, as a fraction
abbrev pub end_text : HeadData → ℤ → List ℕ
end_text h z = fraction_text z (unsigned_abs h.asked.d)

-- both ends
abbrev pub ends_text : HeadData → ℤ × ℤ → List ℕ
ends_text h span = codes "from " ++ (end_text h span.0 ++ (codes " to " ++ end_text h span.1))

-- ---- ticks, at each quarter of the span

-- How many decimal places the ticks of a span over the grid d have: the fewest in which a quarter of the span is ten units or more. There are no ticks where nine are too few, or where an end has more than four digits before the point.
abbrev pub places_of : ℤ × ℤ → ℕ → Option Places
places_of span d = let width = unsigned_abs (span.1 -ℤ span.0) in
    if nat_le (10000 * d) (max (unsigned_abs span.0) (unsigned_abs span.1)) then None
    else if nat_le d (25 * width) then Some Three
    else if nat_le d (25000 * width) then Some Six
    else if nat_le d (25000000 * width) then Some Nine
    else None

-- so many quarters of the way from the low end to the high end, in quarters
abbrev pub quarters : ℤ × ℤ → ℕ → ℤ
quarters span n = span.0 *ℤ pos (4 - n) +ℤ span.1 *ℤ pos n

-- a tick's number, where it stands
abbrev pub tick_text : ℕ → Axis → ℤ × ℤ → Places → ℕ → List ℕ
tick_text d axis span places n = tick_start axis n ++ (decimal_text places (quarters span n) (4 * d) ++ text_end)

-- the marks of an axis, and the five numbers
abbrev pub all_ticks : ℕ → Axis → ℤ × ℤ → Option Places → List ℕ
all_ticks d axis span None = []
all_ticks d axis span (Some places) = let tick = tick_text d axis span places in
    ticks_start axis ++ (tick 0 ++ (tick 1 ++ (tick 2 ++ (tick 3 ++ (tick 4 ++ group_end)))))

-- the ticks of a span
abbrev pub ticks_text : HeadData → Axis → ℤ × ℤ → List ℕ
ticks_text h axis span = let d = unsigned_abs h.asked.d in all_ticks d axis span (places_of span d)

-- ---- an axis

-- a parameter's name, its ends and its ticks
abbrev pub span_text : HeadData → Axis → ℕ → List ℕ
span_text h axis parameter = let span = span_at h.asked.root parameter in
    name_start axis ++ (name_label h parameter ++ (ends_start axis ++ (ends_text h span ++ (text_end ++ ticks_text h axis span))))

-- the same of the parameter on an axis, where there is one
abbrev pub axis_text : HeadData → Axis → Option ℕ → List ℕ
axis_text h axis None = []
axis_text h axis (Some parameter) = span_text h axis parameter

-- whether there is one that has ticks
abbrev pub has_ticks : HeadData → Option ℕ → Bool
has_ticks h None = false
has_ticks h (Some parameter) = is_some (places_of (span_at h.asked.root parameter) (unsigned_abs h.asked.d))

-- that ticks are rounded, once for both axes
abbrev pub note_text : HeadData → Option ℕ → Option ℕ → List ℕ
note_text h x y = if has_ticks h x || has_ticks h y then rounded_note else []

-- ---- the values of the other parameters

-- a value of a parameter, on a line of its own
abbrev pub cut_text : HeadData → ℕ → CutData → List ℕ
cut_text h line cut =
    cut_start line ++ (name_label h cut.parameter ++ (codes " = " ++ (fraction_text cut.num (unsigned_abs cut.den) ++ text_end)))

-- the values of parameters, from a line on
unfoldable pub cuts_from : HeadData → ℕ → List CutData → List ℕ
cuts_from h line [] = []
cuts_from h line (cut ∷ cuts) = cut_text h line cut ++ cuts_from h (line + 1) cuts
