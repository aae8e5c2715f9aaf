-- The report of a case's right tree, as it is written while the tree is walked over: of the first version at the case's own precision alone, and of the second one for a range of precisions up to it.
use Rattle.std.specs.Prelude.{◌≡◌, ℕ, List, ◌++◌, is_some, if◌then◌else◌}
use Rattle.std.specs.declared.option.Option.{Option}
use Rattle.std.specs.Option.{unwrap_or, ForSome}
use Rattle.std.specs.List.{concat}
use Rattle.lift_grid.specs.Tree.{Tree}
use Rattle.corner_lift.specs.Case.{CaseData}
use Rattle.lift_cert.specs.declared.bound.Bound.{Bound}
use Rattle.lift_range.specs.Range.{Between}
use Rattle.region_tree.specs.Nodes.{Node}
use Rattle.region_tree.specs.Nodes.Node.{split, accept, reject, unknown}
use Rattle.region_tree.specs.Right.{IsRightTree}
use Rattle.plift_top.specs.Heads.{IsHeaded}
use Rattle.cert_text.specs.Report.{head_lines, tree_lines, split_line, at_lines, accept_line, reject_lines, unknown_line}

-- the least precision of a range, where one is told: from 1 to the case's own precision
abbrev pub IsRange : CaseData → Option ℕ → Type 0
IsRange k from = ForSome from (Between 1 k.w)

-- the least precision of a case's range: the case's own where none is told
abbrev pub least : CaseData → Option ℕ → ℕ
least k from = unwrap_or from k.w

-- the number of a report's version: the second one tells a range
abbrev pub version_of : Option ℕ → ℕ
version_of from = if is_some from then 2 else 1

-- the lines of a node of a case's tree
abbrev pub node_text : CaseData → Option ℕ → Node → List ℕ
node_text k from (split axis) = split_line axis
node_text k from (accept u x) = concat (at_lines from u) ++ accept_line x
node_text k from (reject u r) = concat (at_lines from u) ++ concat (reject_lines k.model.init u r)
node_text k from unknown = unknown_line

-- the bytes are those of the nodes of a case's right tree for a range of precisions and a bound
abbrev pub AreRightNodes : CaseData → Option ℕ → Bound → List ℕ → Type 0
AreRightNodes k from bound bytes = (tree : Tree) × IsRightTree k (least k from) bound tree × (bytes ≡ concat (tree_lines from k.model.init tree))

-- the bytes are the report of a case's right tree for a range of precisions and a bound
abbrev pub IsRightReport : CaseData → Option ℕ → Bound → List ℕ → Type 0
IsRightReport k from bound = IsHeaded (concat (head_lines k from bound)) (AreRightNodes k from bound)
