-- The text of a tree for a budget: the lines of its nodes in preorder.
use Rattle.std.specs.Prelude.{◌≡◌, ℕ, List, ℤ}
use Rattle.lift_grid.specs.Rectangle.{Spans}
use Rattle.corner_lift.specs.Case.{CaseData}
use Rattle.lift_walk.specs.Halved.{Halved, preorder_text}
use Rattle.cert_text.specs.Report.{accept_line, split_line, unknown_line}
use Rattle.lift_cost.specs.Decided.{AskedCost, IsRightCost}

-- the nodes of a tree
abbrev pub tree_text : Halved (List ℤ) → List ℕ
tree_text tree = preorder_text split_line accept_line unknown_line tree

-- the bytes are the text of a right tree over the rectangle at that depth
abbrev pub IsTreeText : CaseData → AskedCost → Spans → ℕ → List ℕ → Type 0
IsTreeText k a spans depth bytes = (tree : Halved (List ℤ)) × (IsRightCost k a spans depth tree × (bytes ≡ tree_text tree))
