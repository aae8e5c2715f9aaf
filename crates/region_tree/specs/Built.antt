-- A tree that was built, as the tree that definitions speak of.
use Rattle.lift_grid.specs.Tree.{Tree}
use Rattle.lift_grid.specs.Tree.Tree.{split, accept, reject, unknown}
use Rattle.region_tree.specs.declared.tree.Branch.{Branch, Split', Accept, Reject, Unknown}

-- the tree below a branch
abbrev pub tree_of : Branch → Tree
tree_of (Split' axis p lower q upper) = split axis (tree_of lower) (tree_of upper)
tree_of (Accept u x) = accept u x
tree_of (Reject u e k y picks ranks) = reject u (record { numbers = y; picks = picks; ranks = ranks; e = e; k = k })
tree_of Unknown = unknown
