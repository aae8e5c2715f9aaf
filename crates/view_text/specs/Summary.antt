-- The table of a report's leaves.
use Rattle.std.specs.Prelude.{ℕ, zero, suc, ◌+◌, ◌==◌, ◌&&◌, Bool, not, pos, List, [], ◌++◌, codes, find, length, Option, Some, None}
use Rattle.std.specs.Fmt.{decimal}
use Rattle.cert_text.specs.Head.{HeadData}
use Rattle.view_map.specs.Parts.{PartData, MapData}
use Rattle.view_map.specs.Share.{share_of, leaf_count, leaf_count_at, is_kind, whole_volume}
use Rattle.view_map.specs.Slice.{span_at}
use Rattle.view_map.specs.declared.part.LeafKind.{LeafKind}
use Rattle.view_map.specs.declared.part.LeafKind.TheVariants.{Accept, Reject, Unknown}
use Rattle.view_text.specs.Numbers.{percent_text, fraction_text}
use Rattle.view_text.specs.Axes.{parameter_name, end_text}

-- how many leaves of each kind there are
abbrev pub leaves_line : MapData → List ℕ
leaves_line m =
    codes "leaves accept " ++ decimal (leaf_count Accept m.parts)
    ++ codes " reject " ++ decimal (leaf_count Reject m.parts)
    ++ codes " unknown " ++ decimal (leaf_count Unknown m.parts)
    ++ codes "\n"

-- the share of a kind of leaf, behind a label, as a fraction and in percent
abbrev pub share_line : MapData → List ℕ → LeafKind → List ℕ
share_line m label kind = let share = share_of kind m.parts in
    label ++ (fraction_text (pos share) whole_volume ++ ((codes " " ++ percent_text share) ++ codes "\n"))

-- the shares of the region's volume
abbrev pub shares_lines : MapData → List ℕ
shares_lines m =
    share_line m (codes "share accept ") Accept
    ++ (share_line m (codes "share reject ") Reject
    ++ share_line m (codes "share unknown ") Unknown)

-- ---- the greatest and the least decided rectangle: a leaf below fewer splits has more of the volume

-- a decided leaf at a depth
abbrev pub is_decided_at : ℕ → PartData → Bool
is_decided_at depth p = not (is_kind Unknown p.kind) && (p.depth == depth)

-- the first of two, where there is one, and else the second
abbrev pub or_that : Option PartData → Option PartData → Option PartData
or_that None other = other
or_that (Some p) other = Some p

-- the first decided leaf of the least depth, among those of n depths from one on
unfoldable pub greatest_from : List PartData → ℕ → ℕ → Option PartData
greatest_from ps depth zero = None
greatest_from ps depth (suc n) = or_that (find (is_decided_at depth) ps) (greatest_from ps (depth + 1) n)

-- the first decided leaf of the greatest depth, among those of depths below n
unfoldable pub least_below : List PartData → ℕ → Option PartData
least_below ps zero = None
least_below ps (suc n) = or_that (find (is_decided_at n) ps) (least_below ps n)

-- a parameter's interval in a leaf
abbrev pub interval_text : HeadData → PartData → ℕ → List ℕ
interval_text h p parameter = let span = span_at p.spans parameter in
    codes " " ++ (parameter_name h parameter ++ (codes " " ++ (end_text h span.0 ++ (codes " " ++ end_text h span.1))))

-- the intervals of n parameters from one on
unfoldable pub interval_texts_from : HeadData → PartData → ℕ → ℕ → List ℕ
interval_texts_from h p parameter zero = []
interval_texts_from h p parameter (suc n) = interval_text h p parameter ++ interval_texts_from h p (parameter + 1) n

-- the name of a kind
abbrev pub leaf_kind_name : LeafKind → List ℕ
leaf_kind_name Accept = codes "accept"
leaf_kind_name Reject = codes "reject"
leaf_kind_name Unknown = codes "unknown"

-- a leaf's kind and depth, behind a label
abbrev pub kind_text : List ℕ → PartData → List ℕ
kind_text label p = label ++ leaf_kind_name p.kind ++ codes " depth " ++ decimal p.depth

-- a leaf, behind a label: its kind, its depth and its rectangle
abbrev pub leaf_text : HeadData → List ℕ → PartData → List ℕ
leaf_text h label p = kind_text label p ++ (interval_texts_from h p 0 (length h.asked.model.names) ++ codes "\n")

-- the same, where there is one
abbrev pub leaf_line : HeadData → List ℕ → Option PartData → List ℕ
leaf_line h label None = label ++ codes "none\n"
leaf_line h label (Some p) = leaf_text h label p

-- the greatest and the least decided rectangle, the first of each
abbrev pub extremes : MapData → List ℕ
extremes m = leaf_line m.head (codes "greatest ") (greatest_from m.parts 0 21) ++ leaf_line m.head (codes "least ") (least_below m.parts 21)

-- ---- leaves by depth

-- how many leaves of each kind there are at a depth
abbrev pub depth_line : MapData → ℕ → List ℕ
depth_line m depth =
    codes "depth " ++ decimal depth
    ++ codes " accept " ++ decimal (leaf_count_at Accept depth m.parts)
    ++ codes " reject " ++ decimal (leaf_count_at Reject depth m.parts)
    ++ codes " unknown " ++ decimal (leaf_count_at Unknown depth m.parts)
    ++ codes "\n"

-- the lines of n depths from one on
unfoldable pub depths_from : MapData → ℕ → ℕ → List ℕ
depths_from m depth zero = []
depths_from m depth (suc n) = depth_line m depth ++ depths_from m (depth + 1) n

-- a line for each depth up to the one that was asked for
abbrev pub depths : MapData → List ℕ
depths m = depths_from m 0 (m.head.asked.depth + 1)

-- the table: leaves, shares, the greatest and the least decided rectangle, and leaves by depth
abbrev pub summary_text : MapData → List ℕ
summary_text m = leaves_line m ++ (shares_lines m ++ (extremes m ++ depths m))
