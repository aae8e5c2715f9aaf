-- The slice that a picture shows, by what is asked for.
use Prim.Native.Char.{code}
use Rattle.std.specs.Prelude.{ℕ, ◌+◌, ◌==◌, ◌||◌, Bool, false, List, [], ◌∷◌, ◌++◌, Option, Some, None, Result, Ok, Err, position, if◌then◌else◌}
use Rattle.std.specs.List.{list_any}
use Rattle.std.specs.Str.{bytes_eq}
use Rattle.lift_frac.specs.Ratio.{Ratio}
use Rattle.lift_frac.specs.Written.{cut_at}
use Rattle.lift_model.specs.Model.{live}
use Rattle.cert_text.specs.Head.{HeadData}
use Rattle.view_map.specs.Slice.{CutData, SliceData, span_at}
use Rattle.view_map.specs.Choice.{axes_of, slice_of}
use Rattle.view_words.specs.Words.{WishData}
use Rattle.view_words.specs.Value.{value_of, is_inside}
use Rattle.view_words.specs.declared.job.Cause.{Cause}
use Rattle.view_words.specs.declared.job.Cause.TheVariants.{Syntax, UnknownName, Repeated, Outside}
use Rattle.view_words.specs.declared.job.Usage.{Usage}
use Rattle.view_words.specs.declared.job.Usage.TheVariants.{X, Y, At}

-- the parameters on both axes, where one lies there
abbrev pub Axes : Type 0
Axes = Option ℕ × Option ℕ

-- a parameter lies on an axis
abbrev pub lies_on : Option ℕ → ℕ → Bool
lies_on None parameter = false
lies_on (Some axis) parameter = axis == parameter

-- the parameter that is asked for on an axis, among these names
abbrev pub axis_for : List (List ℕ) → Option (List ℕ) → Result (Option ℕ) Cause
axis_for names None = Ok None
axis_for names (Some name) = elim (position (bytes_eq name) names) [ None ↦ Err UnknownName | Some parameter ↦ Ok (Some parameter) ]

-- two axes, which no parameter shares
abbrev pub apart : Option ℕ → Option ℕ → Result Axes Usage
apart x None = Ok (x, None)
apart x (Some y) = if lies_on x y then Err (Y Repeated) else Ok (x, Some y)

-- both axes, or the first that is at fault
abbrev pub both_axes : Result (Option ℕ) Cause → Result (Option ℕ) Cause → Result Axes Usage
both_axes (Err cause) y = Err (X cause)
both_axes (Ok x) (Err cause) = Err (Y cause)
both_axes (Ok x) (Ok y) = apart x y

-- the parameters that are asked for on both axes
abbrev pub axes_for : List (List ℕ) → WishData → Result Axes Usage
axes_for names w = both_axes (axis_for names w.x) (axis_for names w.y)

-- a parameter's value
abbrev pub cut_with : Option ℕ → Option Ratio → Result CutData Cause
cut_with None value = Err UnknownName
cut_with (Some parameter) None = Err Syntax
cut_with (Some parameter) (Some q) = Ok (record { parameter = parameter; num = q.num; den = q.den })

-- the value that a text NAME=VALUE gives to a parameter
abbrev pub cut_named : List (List ℕ) → List ℕ → Result CutData Cause
cut_named names text = elim (cut_at (code "=") text) [ None ↦ Err Syntax | Some parts ↦ cut_with (position (bytes_eq parts.0) names) (value_of parts.1) ]

-- a parameter lies on an axis, or has a value already
abbrev pub is_taken : Axes → List CutData → ℕ → Bool
is_taken axes given parameter = lies_on axes.0 parameter || lies_on axes.1 parameter || list_any (λ c. c.parameter == parameter) given

-- a value of a parameter that isn't taken, inside the region
abbrev pub admitted : HeadData → Axes → List CutData → CutData → Result CutData Cause
admitted h axes given c =
    if is_taken axes given c.parameter then Err Repeated
    else (if is_inside h.asked.d (span_at h.asked.root c.parameter) c.num c.den then Ok c else Err Outside)

-- the same of one that was read
abbrev pub admitted_from : HeadData → Axes → List CutData → Result CutData Cause → Result CutData Cause
admitted_from h axes given (Err cause) = Err cause
admitted_from h axes given (Ok c) = admitted h axes given c

-- the value that a text gives to a parameter, beside those that are given already
abbrev pub cut_for : HeadData → Axes → List CutData → List ℕ → Result CutData Cause
cut_for h axes given text = admitted_from h axes given (cut_named h.asked.model.names text)

-- the values that are given, with those of these texts behind them, of which the first is that number
abbrev pub cuts_for : HeadData → Axes → List CutData → ℕ → List (List ℕ) → Result (List CutData) Usage
cuts_for h axes given place [] = Ok given
cuts_for h axes given place (text ∷ texts) = elim (cut_for h axes given text) [
  | Err cause ↦ Err (At place cause)
  | Ok c ↦ cuts_for h axes (given ++ c ∷ []) (place + 1) texts
]

-- the slice with these axes and values
abbrev pub slice_by : HeadData → Axes → Result (List CutData) Usage → Result SliceData Usage
slice_by h axes (Err fault) = Err fault
slice_by h axes (Ok given) = Ok (slice_of h axes.0 axes.1 given)

-- the slice with these axes, and the values of the texts
abbrev pub slice_on : HeadData → List (List ℕ) → Result Axes Usage → Result SliceData Usage
slice_on h texts (Err fault) = Err fault
slice_on h texts (Ok axes) = slice_by h axes (cuts_for h (axes_of (live h.asked.model) axes.0 axes.1) [] 1 texts)

-- the slice of a report's region that is asked for, or what is at fault
abbrev pub slice_for : HeadData → WishData → Result SliceData Usage
slice_for h w = slice_on h w.at (axes_for h.asked.model.names w)
