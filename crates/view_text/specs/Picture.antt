-- The picture of a slice of a report's region, as SVG.
use Rattle.std.specs.Prelude.{ℕ, ◌+◌, ◌*◌, ◌==◌, List, [], ◌++◌, codes, length, if◌then◌else◌}
use Rattle.std.specs.Fmt.{decimal}
use Rattle.lift_model.specs.declared.kind.Kind.{Kind}
use Rattle.lift_model.specs.declared.kind.Kind.TheVariants.{Dtmc, Mdp}
use Rattle.lift_model.specs.Model.{ModelData}
use Rattle.cert_text.specs.Head.{HeadData, least_precision}
use Rattle.view_map.specs.Parts.{PartData, MapData}
use Rattle.view_map.specs.Share.{share_of}
use Rattle.view_map.specs.Slice.{SliceData}
use Rattle.view_map.specs.declared.part.LeafKind.TheVariants.{Accept, Reject, Unknown}
use Rattle.view_text.specs.Numbers.{percent_text}
use Rattle.view_text.specs.Field.{outlines}
use Rattle.view_text.specs.Axes.{axis_text, note_text, cuts_from}
use Rattle.view_text.specs.Style.{each_kind, least_height, picture_start, size_end, desc_start, patterns_start, pattern_text, patterns_end, question_start, model_start, shares_start, text_end, legend_text, field_start, path_start, path_end, field_end, picture_end}
use Rattle.view_text.specs.declared.axis.Axis.TheVariants.{Across, Upright}
use Rattle.view_text.specs.declared.layer.Layer.{Layer}
use Rattle.view_text.specs.declared.layer.Layer.TheVariants.{Leaves, Borders}

-- ---- what a report tells

-- the bound
abbrev pub bound_text : HeadData → List ℕ
bound_text h = codes "at most " ++ decimal h.bound.num ++ codes "/" ++ decimal h.bound.den ++ codes ", numbers over 2^"

-- the least precision of a range, before the greatest one, where they differ
abbrev pub range_text : ℕ → ℕ → List ℕ
range_text least greatest = if least == greatest then [] else decimal least ++ codes " to 2^"

-- the greatest precision and the depth
abbrev pub depth_text : HeadData → List ℕ
depth_text h = decimal h.asked.w ++ codes ", depth " ++ decimal h.asked.depth

-- what was asked
abbrev pub question : HeadData → List ℕ
question h = bound_text h ++ (range_text (least_precision h) h.asked.w ++ depth_text h)

-- the name of a kind of model
abbrev pub kind_name : Kind → List ℕ
kind_name Dtmc = codes "Markov chain"
kind_name Mdp = codes "Markov decision process"

-- of what it was asked
abbrev pub model_text : ModelData → List ℕ
model_text m = kind_name m.kind ++ codes ", states: " ++ decimal (length m.states)

-- the shares of the kinds of leaves
abbrev pub shares_text : List PartData → List ℕ
shares_text ps =
    codes "accepted " ++ percent_text (share_of Accept ps)
    ++ (codes ", rejected " ++ percent_text (share_of Reject ps)
    ++ (codes ", unknown " ++ percent_text (share_of Unknown ps)
    ++ codes " of the volume, rounded down"))

-- ---- the picture

-- its size: a line is added for each value of a parameter
abbrev pub size_text : SliceData → List ℕ
size_text s = picture_start ++ decimal (least_height s.y + 20 * length s.cuts) ++ size_end

-- the start: size, name, description and patterns
abbrev pub start_text : MapData → SliceData → List ℕ
start_text m s =
    size_text s
    ++ (question m.head
    ++ (desc_start
    ++ (shares_text m.parts
    ++ (patterns_start
    ++ (each_kind pattern_text
    ++ patterns_end)))))

-- the title: what was asked, of what, and the shares
abbrev pub title_text : MapData → List ℕ
title_text m =
    question_start
    ++ (question m.head
    ++ (model_start
    ++ (model_text m.head.asked.model
    ++ (shares_start
    ++ (shares_text m.parts
    ++ text_end)))))

-- the path of a layer: its rectangles
abbrev pub path_text : MapData → SliceData → Layer → List ℕ
path_text m s layer = path_start layer ++ (outlines m s layer ++ path_end)

-- the field: the path of each kind, and the borders over them
abbrev pub field_text : MapData → SliceData → List ℕ
field_text m s = field_start s.y ++ (each_kind (λ kind. path_text m s (Leaves kind)) ++ (path_text m s Borders ++ field_end s.y))

-- what stands above the field
abbrev pub top_text : MapData → SliceData → List ℕ
top_text m s = start_text m s ++ (title_text m ++ (legend_text ++ axis_text m.head Upright s.y))

-- what stands below it
abbrev pub bottom_text : HeadData → SliceData → List ℕ
bottom_text h s = axis_text h Across s.x ++ (note_text h s.x s.y ++ (cuts_from h 0 s.cuts ++ picture_end))

-- the picture
abbrev pub svg_text : MapData → SliceData → List ℕ
svg_text m s = top_text m s ++ (field_text m s ++ bottom_text m.head s)
