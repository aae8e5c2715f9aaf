-- The text of a tree for a property: the lines of its nodes in preorder.
use Rattle.std.specs.Prelude.{◌≡◌, ℕ, ◌*◌, ◌^◌, Option, Some, None, Bool, List, [], ◌∷◌, ◌++◌, ℤ, map, codes, if◌then◌else◌}
use Rattle.std.specs.Fmt.{decimal, signed_decimal}
use Prim.Native.Char.{code}
use Rattle.lift_grid.specs.Rectangle.{Spans}
use Rattle.lift_grid.specs.Tree.{RejectData}
use Rattle.corner_lift.specs.Case.{CaseData, at, number}
use Rattle.lift_cert.specs.declared.bound.Bound.{Bound}
use Rattle.lift_walk.specs.Halved.{Halved, preorder_text}
use Rattle.cert_text.specs.Report.{at_line, line, mark_word, numbers_words, split_line, unknown_line}
use Rattle.property_text.specs.declared.op.Op.{Op}
use Rattle.property_tree.specs.Leaves.{PropertyLeaf, RangeLeaf, IsRightFor, IsRightOver, holds_by}

-- whether the property holds: a word alone on its line
abbrev pub verdict_line : Bool → List ℕ
verdict_line holds = line ((if holds then codes "holds" else codes "fails") ∷ [])

-- a lower vector's first line: e, k, their product, and the initial state's number y over z
abbrev pub lower_line : ℕ → ℕ → ℤ → ℕ → List ℕ
lower_line e k y z =
    line (codes "lower" ∷ codes "e" ∷ decimal e ∷ codes "k" ∷ decimal k ∷ codes "m" ∷ decimal (e * k)
    ∷ codes "b" ∷ (signed_decimal y ++ code "/" ∷ decimal z) ∷ [])

-- the first line of a lower vector at the case's precision, and the numbers of the states
abbrev pub lower_text : CaseData → RejectData → List ℕ
lower_text k r = lower_line r.e r.k (number r.numbers k.model.init) (2 ^ k.w) ++ line (numbers_words (codes "y") r.numbers)

-- the choices of the states, `-` for none
abbrev pub choices_line : List ℕ → List ℕ
choices_line picks = line (codes "choice" ∷ map mark_word picks)

-- the ranks of the states, `-` for none
abbrev pub ranks_line : List ℕ → List ℕ
ranks_line ranks = line (codes "rank" ∷ map mark_word ranks)

-- the lines of a certificate
abbrev pub certificate_text : CaseData → PropertyLeaf → List ℕ
certificate_text k (PropertyLeaf.upper x) = line (numbers_words (codes "x") x)
certificate_text k (PropertyLeaf.upper_one x picks) = line (numbers_words (codes "x") x) ++ choices_line picks
certificate_text k (PropertyLeaf.lower r) = lower_text k r ++ (choices_line r.picks ++ ranks_line r.ranks)
certificate_text k (PropertyLeaf.lower_all r) = lower_text k r ++ ranks_line r.ranks

-- a decided leaf
abbrev pub leaf_text : CaseData → Op → PropertyLeaf → List ℕ
leaf_text k op leaf = verdict_line (holds_by op leaf) ++ certificate_text k leaf

-- the nodes of a tree
abbrev pub tree_text : CaseData → Op → Halved PropertyLeaf → List ℕ
tree_text k op tree = preorder_text split_line (leaf_text k op) unknown_line tree

-- the bytes are the text of a right tree over the rectangle at that depth
abbrev pub IsTreeText : CaseData → Op → Bound → Spans → ℕ → List ℕ → Type 0
IsTreeText k op bound spans depth bytes = (tree : Halved PropertyLeaf) × (IsRightFor k op bound spans depth tree × (bytes ≡ tree_text k op tree))

-- ---- a range of precisions

-- a decided leaf: its precision first
abbrev pub range_leaf_text : CaseData → Op → RangeLeaf → List ℕ
range_leaf_text k op leaf = at_line leaf.u ++ leaf_text (at k leaf.u) op leaf.certificate

-- the nodes of a tree
abbrev pub range_tree_text : CaseData → Op → Halved RangeLeaf → List ℕ
range_tree_text k op tree = preorder_text split_line (range_leaf_text k op) unknown_line tree

-- the bytes are the text of a right tree for what is asked, over the rectangle at that depth: for a range from that precision on, if there is one
abbrev pub IsAskedText : CaseData → Option ℕ → Op → Bound → Spans → ℕ → List ℕ → Type 0
IsAskedText k None op bound spans depth bytes = IsTreeText k op bound spans depth bytes
IsAskedText k (Some v) op bound spans depth bytes = (tree : Halved RangeLeaf) × (IsRightOver k v op bound spans depth tree × (bytes ≡ range_tree_text k op tree))
