-- How a picture looks: what tells the kinds of leaves apart, and what is the same in each picture.
use Rattle.std.specs.Prelude.{ℕ, ◌+◌, ◌*◌, ◌-◌, List, [], ◌∷◌, ◌++◌, codes, Option, Some, None}
use Rattle.std.specs.Fmt.{decimal}
use Rattle.std.specs.List.{concat}
use Rattle.view_map.specs.declared.part.LeafKind.{LeafKind}
use Rattle.view_map.specs.declared.part.LeafKind.TheVariants.{Accept, Reject, Unknown}
use Rattle.view_text.specs.declared.axis.Axis.{Axis}
use Rattle.view_text.specs.declared.axis.Axis.TheVariants.{Across, Upright}
use Rattle.view_text.specs.declared.layer.Layer.{Layer}
use Rattle.view_text.specs.declared.layer.Layer.TheVariants.{Leaves, Borders}

-- ---- the kinds of leaves

-- the word of a kind in the legend; its pattern has the same name
abbrev pub kind_word : LeafKind → List ℕ
kind_word Accept = codes "accepted"
kind_word Reject = codes "rejected"
kind_word Unknown = codes "unknown"

-- the colour of a kind: light blue, brown, white
abbrev pub kind_colour : LeafKind → List ℕ
kind_colour Accept = codes "#56b4e9"
kind_colour Reject = codes "#b04a00"
kind_colour Unknown = codes "#fff"

-- what is drawn over the colour, which tells the kinds apart where colours don't: nothing, white stripes, a grey dot
abbrev pub kind_marks : LeafKind → List ℕ
kind_marks Accept = []
kind_marks Reject = codes "<path d=\"M0 20000L20000 0M-5000 5000L5000 -5000M15000 25000L25000 15000\" stroke=\"#fff\" stroke-width=\"3000\"/>"
kind_marks Unknown = codes "<circle cx=\"10000\" cy=\"10000\" r=\"2500\" fill=\"#555\"/>"

-- where a kind stands in the legend, from left to right
abbrev pub kind_place : LeafKind → ℕ
kind_place Accept = 20
kind_place Reject = 160
kind_place Unknown = 300

-- a text for each kind, one behind the other
abbrev pub each_kind : (LeafKind → List ℕ) → List ℕ
each_kind text = text Accept ++ (text Reject ++ text Unknown)

-- the pattern of a kind: its colour and its marks, under its name
unfoldable pub pattern_text : LeafKind → List ℕ
pattern_text kind = concat (
    codes "<pattern id=\"" ∷ kind_word kind
    ∷ codes "\" width=\"20000\" height=\"20000\" patternUnits=\"userSpaceOnUse\"><path d=\"M0 0h20000v20000H0z\" fill=\"" ∷ kind_colour kind
    ∷ codes "\"/>" ∷ kind_marks kind
    ∷ codes "</pattern>\n" ∷ [])

-- the box of a kind in the legend, filled by its pattern
unfoldable pub box_text : LeafKind → List ℕ
box_text kind = concat (
    codes "<svg x=\"" ∷ decimal (kind_place kind)
    ∷ codes "\" y=\"84\" width=\"26\" height=\"18\" viewBox=\"0 0 52429 36298\"><path d=\"M0 0h52429v36298H0z\" fill=\"url(#" ∷ kind_word kind
    ∷ codes ")\"/></svg>\n" ∷ [])

-- the word of a kind beside its box
unfoldable pub word_text : LeafKind → List ℕ
word_text kind = concat (codes "<text x=\"" ∷ decimal (kind_place kind + 34) ∷ codes "\" y=\"98\">" ∷ kind_word kind ∷ codes "</text>\n" ∷ [])

-- ---- the start

-- how high a picture is without values of parameters: less with a bar, where no parameter lies on the upright axis
abbrev pub least_height : Option ℕ → ℕ
least_height None = 268
least_height (Some y) = 748

-- before the height
unfoldable pub picture_start : List ℕ
picture_start = codes "<svg xmlns=\"http://www.w3.org/2000/svg\" viewBox=\"0 0 720 "

-- between the height and the name
unfoldable pub size_end : List ℕ
size_end = codes "\" role=\"img\" font-family=\"sans-serif\" font-size=\"14\">\n<title>"

-- between the name and the description
abbrev pub desc_start : List ℕ
desc_start = codes "</title>\n<desc>"

-- between the description and the patterns
abbrev pub patterns_start : List ℕ
patterns_start = codes "</desc>\n<defs>\n"

-- behind the patterns
abbrev pub patterns_end : List ℕ
patterns_end = codes "</defs>\n<rect width=\"720\" height=\"100%\" fill=\"#fff\"/>\n"

-- ---- the title and the legend

-- before its first line
abbrev pub question_start : List ℕ
question_start = codes "<text x=\"20\" y=\"26\" font-size=\"15\" font-weight=\"bold\">"

-- between its first line and its second
abbrev pub model_start : List ℕ
model_start = codes "</text>\n<text x=\"20\" y=\"48\">"

-- between its second line and its third
abbrev pub shares_start : List ℕ
shares_start = codes "</text>\n<text x=\"20\" y=\"70\">"

-- behind a text
abbrev pub text_end : List ℕ
text_end = codes "</text>\n"

-- before the boxes of the legend
abbrev pub boxes_start : List ℕ
boxes_start = codes "<g stroke=\"#000\" stroke-width=\"1500\">\n"

-- between the boxes and the words, and behind what belongs together
abbrev pub group_end : List ℕ
group_end = codes "</g>\n"

-- the legend, a box and a word for each kind
abbrev pub legend_text : List ℕ
legend_text = boxes_start ++ (each_kind box_text ++ (group_end ++ each_kind word_text))

-- ---- the field

-- before the field: it is a bar where no parameter lies on the upright axis, and else a square
unfoldable pub field_start : Option ℕ → List ℕ
field_start None = codes "<svg x=\"140\" y=\"116\" width=\"520\" height=\"80\" viewBox=\"0 0 1048576 1048576\" preserveAspectRatio=\"xMinYMin slice\">\n"
field_start (Some y) = codes "<svg x=\"140\" y=\"156\" width=\"520\" height=\"520\" viewBox=\"0 0 1048576 1048576\" preserveAspectRatio=\"xMinYMin slice\">\n"

-- what stands before the rectangles of a layer: they make one path, filled by the pattern of a kind, or drawn as lines
unfoldable pub path_start : Layer → List ℕ
path_start (Leaves kind) = concat (codes "<path fill=\"url(#" ∷ kind_word kind ∷ codes ")\" d=\"" ∷ [])
path_start Borders = codes "<path fill=\"none\" stroke=\"#000\" stroke-width=\"1000\" d=\""

-- behind these rectangles
abbrev pub path_end : List ℕ
path_end = codes "\"/>\n"

-- behind the field: its frame, and from where on the places below it are counted
unfoldable pub field_end : Option ℕ → List ℕ
field_end None = codes "</svg>\n<rect x=\"140\" y=\"116\" width=\"520\" height=\"80\" fill=\"none\" stroke=\"#000\"/>\n<g transform=\"translate(0 196)\">\n"
field_end (Some y) = codes "</svg>\n<rect x=\"140\" y=\"156\" width=\"520\" height=\"520\" fill=\"none\" stroke=\"#000\"/>\n<g transform=\"translate(0 676)\">\n"

-- at the end of the picture
abbrev pub picture_end : List ℕ
picture_end = codes "</g>\n</svg>\n"

-- ---- the axes: across, from left to right, below the field; and upright, from below up, on its left

-- before the name of a parameter: below the field's middle, or above the field
unfoldable pub name_start : Axis → List ℕ
name_start Across = codes "<text x=\"400\" y=\"42\" text-anchor=\"middle\">"
name_start Upright = codes "<text x=\"20\" y=\"126\">"

-- between the name and the ends
unfoldable pub ends_start : Axis → List ℕ
ends_start Across = codes "</text>\n<text x=\"400\" y=\"60\" font-size=\"11\" text-anchor=\"middle\">"
ends_start Upright = codes "</text>\n<text x=\"20\" y=\"144\" font-size=\"11\">"

-- before the numbers of the ticks: five marks at the field's side
unfoldable pub ticks_start : Axis → List ℕ
ticks_start Across = codes "<path d=\"M140 0v6M270 0v6M400 0v6M530 0v6M660 0v6\" stroke=\"#000\"/>\n<g font-size=\"12\" text-anchor=\"middle\">\n"
ticks_start Upright = codes "<path d=\"M140 156h-6M140 286h-6M140 416h-6M140 546h-6M140 676h-6\" stroke=\"#000\"/>\n<g font-size=\"12\" text-anchor=\"end\">\n"

-- before the number of a tick, so many quarters of the way from the low end to the high end
unfoldable pub tick_start : Axis → ℕ → List ℕ
tick_start Across n = concat (codes "<text x=\"" ∷ decimal (140 + 130 * n) ∷ codes "\" y=\"20\">" ∷ [])
tick_start Upright n = concat (codes "<text x=\"130\" y=\"" ∷ decimal (680 - 130 * n) ∷ codes "\">" ∷ [])

-- that the numbers of the ticks are rounded, left below the field
abbrev pub rounded_note : List ℕ
rounded_note = codes "<text x=\"20\" y=\"42\" font-size=\"11\">ticks are rounded</text>\n"

-- before the value of a parameter, on that line below the axis
unfoldable pub cut_start : ℕ → List ℕ
cut_start line = concat (codes "<text x=\"20\" y=\"" ∷ decimal (84 + 20 * line) ∷ codes "\" font-size=\"13\">" ∷ [])
