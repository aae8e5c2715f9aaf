-- Which slice is looked at, by what is asked for.
use Rattle.std.specs.Prelude.{ℕ, zero, suc, ◌+◌, ◌/◌, ◌%◌, ◌^◌, ◌==◌, ◌&&◌, not, Bool, true, List, [], ◌∷◌, ◌++◌, ℤ, pos, ◌+ℤ◌, ◌*ℤ◌, find, length, Option, Some, None, if◌then◌else◌}
use Rattle.lift_grid.specs.Rectangle.{Spans}
use Rattle.lift_model.specs.Model.{live}
use Rattle.cert_text.specs.Head.{HeadData}
use Rattle.view_map.specs.Slice.{CutData, SliceData, span_at}

-- whether a parameter is in the set of live ones
abbrev pub is_live : ℕ → ℕ → Bool
is_live set parameter = set / 2 ^ parameter % 2 == 1

-- whether a parameter doesn't lie on an axis
abbrev pub is_free : Option ℕ → ℕ → Bool
is_free None parameter = true
is_free (Some axis) parameter = not (axis == parameter)

-- whether a parameter lies on no axis
abbrev pub is_off : Option ℕ × Option ℕ → ℕ → Bool
is_off axes parameter = is_free axes.0 parameter && is_free axes.1 parameter

-- whether a parameter is live and doesn't lie on the other axis
abbrev pub is_choice : ℕ → Option ℕ → ℕ → Bool
is_choice set other parameter = is_live set parameter && is_free other parameter

-- the first of n numbers from i on that passes
unfoldable pub first_from : (ℕ → Bool) → ℕ → ℕ → Option ℕ
first_from test i zero = None
first_from test i (suc n) = if test i then Some i else first_from test (i + 1) n

-- the first live parameter that doesn't lie on the other axis
abbrev pub first_live : ℕ → Option ℕ → Option ℕ
first_live set other = first_from (is_choice set other) 0 16

-- what is asked for, and else another
abbrev pub or_else : Option ℕ → Option ℕ → Option ℕ
or_else None other = other
or_else (Some i) other = Some i

-- the parameters on both axes: those that are asked for, and else the first live ones
abbrev pub axes_of : ℕ → Option ℕ → Option ℕ → Option ℕ × Option ℕ
axes_of set x y = let across = or_else x (first_live set y) in (across, or_else y (first_live set across))

-- the midpoint of a parameter's span
abbrev pub middle_cut : Spans → ℤ → ℕ → CutData
middle_cut root d parameter = let s = span_at root parameter in record { parameter = parameter; num = s.0 +ℤ s.1; den = pos 2 *ℤ d }

-- the value that is given to a parameter
abbrev pub given_to : List CutData → ℕ → Option CutData
given_to given parameter = find (λ cut. cut.parameter == parameter) given

-- a parameter's value: the one that is given, and else the midpoint
abbrev pub cut_of : Spans → ℤ → List CutData → ℕ → CutData
cut_of root d given parameter = elim (given_to given parameter) [ None ↦ middle_cut root d parameter | Some cut ↦ cut ]

-- the value of a parameter that lies on no axis, and of another none
abbrev pub cut_on : HeadData → Option ℕ × Option ℕ → List CutData → ℕ → List CutData
cut_on h axes given parameter = if is_off axes parameter then cut_of h.asked.root h.asked.d given parameter ∷ [] else []

-- those of the first n parameters
abbrev pub cuts_below : HeadData → Option ℕ × Option ℕ → List CutData → ℕ → List CutData
cuts_below h axes given zero = []
cuts_below h axes given (suc n) = cuts_below h axes given n ++ cut_on h axes given n

-- the values of the parameters on no axis
abbrev pub cuts_of : HeadData → Option ℕ × Option ℕ → List CutData → List CutData
cuts_of h axes given = cuts_below h axes given (length h.asked.model.names)

-- the slice that is looked at, where these parameters and values are asked for
abbrev pub slice_of : HeadData → Option ℕ → Option ℕ → List CutData → SliceData
slice_of h x y given = let axes = axes_of (live h.asked.model) x y in record { x = axes.0; y = axes.1; cuts = cuts_of h axes given }
