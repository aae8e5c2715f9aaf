-- The text of a tree with leaves of any kind: the lines of its nodes in preorder.
use Rattle.std.specs.Prelude.{◌≡◌, ℕ, List}
use Rattle.lift_grid.specs.Rectangle.{Spans}
use Rattle.corner_lift.specs.Case.{CaseData}
use Rattle.lift_walk.specs.Halved.{Halved, IsRightBy, preorder_text}
pub use Rattle.lift_walk.specs.Bases.{LeavesAreOne}
use Rattle.cert_text.specs.Report.{split_line, unknown_line}

-- the nodes of a tree, by the lines of its leaves
abbrev pub tree_text : {Leaf : Type 0} → (Leaf → List ℕ) → Halved Leaf → List ℕ
tree_text leaf_text tree = preorder_text split_line leaf_text unknown_line tree

-- the bytes are the text of a right tree over the rectangle at that depth
abbrev pub IsTreeText : {Leaf : Type 0} → (Spans → Leaf → Type 0) → (Spans → Type 0) → (Leaf → List ℕ) → CaseData → Spans → ℕ → List ℕ → Type 0
IsTreeText {Leaf} decides opens leaf_text k spans depth bytes = (tree : Halved Leaf) × (IsRightBy decides opens k spans depth tree × (bytes ≡ tree_text leaf_text tree))
