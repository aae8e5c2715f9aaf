-- The nodes of a tree, one after another, as a visitor is shown them.
use Rattle.std.specs.Prelude.{ℕ, List, [], ◌∷◌, ◌++◌, ℤ}
use Rattle.lift_grid.specs.Tree.{Tree, RejectData}
use Rattle.lift_grid.specs.Tree.Tree.{split as split-tree, accept as accept-tree, reject as reject-tree, unknown as unknown-tree}

-- A node without what lies below it: a split on a parameter, or a leaf with its precision and what decides it.
pub data Node : Type 0 where
  split : ℕ → Node
  accept : ℕ → List ℤ → Node
  reject : ℕ → RejectData → Node
  unknown : Node

-- the nodes of a tree in preorder: a split comes before its halves, and the lower half before the upper one
abbrev pub nodes : Tree → List Node
nodes (split-tree axis lower upper) = split axis ∷ (nodes lower ++ nodes upper)
nodes (accept-tree u x) = accept u x ∷ []
nodes (reject-tree u r) = reject u r ∷ []
nodes unknown-tree = unknown ∷ []
