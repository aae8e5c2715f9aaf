-- Reading a whole report: its head, and the nodes of its tree.
use Rattle.std.specs.Prelude.{ℕ, zero, suc, ◌+◌, max, List, [], ◌∷◌, Ok, if◌then◌else◌}
use Rattle.lift_grid.specs.Tree.{Tree}
use Rattle.lift_grid.specs.Tree.Tree.{split as splits, accept as accepts, reject as rejects, unknown as unknowns}
use Rattle.line_text.specs.declared.error.TextCause.TheVariants.{Limit}
use Rattle.line_text.specs.Reading.{◌>>=◌, Reader, fault, is_feed}
use Rattle.cert_text.specs.Head.{HeadData, head_at}
use Rattle.cert_text.specs.Nodes.{Node, split, accept, reject, unknown, node_at}

-- how many splits stand above each other in a tree
abbrev pub height : Tree → ℕ
height (splits axis lower upper) = suc (max (height lower) (height upper))
height (accepts u x) = 0
height (rejects u r) = 0
height unknowns = 0

-- what a node begins: a leaf, or a split whose halves are read by this reader
abbrev pub branch_at : Reader Tree → Node → Reader Tree
branch_at half (split axis) c = do
  lower ← half c
  upper ← half lower.1
  Ok (splits axis lower.0 upper.0, upper.1)
branch_at half (accept u x) c = Ok (accepts u x, c)
branch_at half (reject u r) c = Ok (rejects u r, c)
branch_at half unknown c = Ok (unknowns, c)

-- a tree of at most so many splits above each other; one split more is out of that limit
unfoldable pub tree_at : HeadData → ℕ → Reader Tree
tree_at h zero c = node_at h c >>= λ node. branch_at (λ c. fault c.0 Limit) node.0 node.1
tree_at h (suc levels) c = node_at h c >>= λ node. branch_at (tree_at h levels) node.0 node.1

-- a report: its head, and a tree of at most so many splits above each other
unfoldable pub report_at : ℕ → Reader (HeadData × Tree)
report_at levels c = do
  head ← head_at c
  tree ← tree_at head.0 levels head.1
  Ok ((head.0, tree.0), tree.1)

-- how many line feeds a text has
abbrev pub feed_count : List ℕ → ℕ
feed_count [] = 0
feed_count (b ∷ text) = (if is_feed b then 1 else 0) + feed_count text
