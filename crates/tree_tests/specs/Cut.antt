-- Trees that are cut at a depth, and their nodes as a base gives them.
use Rattle.std.specs.Prelude.{◌≡◌, ℕ, zero, suc, List, [], ◌∷◌, map}
use Rattle.lift_grid.specs.Tree.{Tree}
use Rattle.lift_grid.specs.Tree.Tree.{split, accept, reject, unknown}
use Rattle.corner_lift.specs.Case.{CaseData}
use Rattle.lift_cert.specs.declared.bound.Bound.{Bound}
use Rattle.region_tree.specs.Nodes.{Node, nodes}
use Rattle.region_tree.specs.Nodes.Node.{split as split-node, accept as accept-node, reject as reject-node, unknown as unknown-node}
use Rattle.region_tree.specs.Right.{IsRightTree}
use Rattle.region_tree.specs.declared.base.Given.{Given}
use Rattle.region_tree.specs.declared.base.Given.TheVariants.{Split, Accept, Reject, Unknown}

-- the tree with an unknown leaf in the place of each split at that depth
abbrev pub cut : Tree → ℕ → Tree
cut (accept u x) depth = accept u x
cut (reject u r) depth = reject u r
cut unknown depth = unknown
cut (split axis lower upper) zero = unknown
cut (split axis lower upper) (suc depth) = split axis (cut lower depth) (cut upper depth)

-- what is given of a node
abbrev pub given_of : Node → Given
given_of (split-node axis) = Split axis
given_of (accept-node u x) = Accept
given_of (reject-node u r) = Reject
given_of unknown-node = Unknown

-- what is given of a tree, node by node
abbrev pub givens : Tree → List Given
givens t = map given_of (nodes t)

-- they are given of a right tree that is cut at that depth, for the precisions from v to the case's
abbrev pub AreGivenOfCut : CaseData → ℕ → Bound → ℕ → List Given → Type 0
AreGivenOfCut k v bound depth list = (t : Tree) × IsRightTree k v bound t × (list ≡ givens (cut t depth))

-- the letter of a leaf that decides
abbrev pub letter_of : Given → List ℕ
letter_of Accept = 65 ∷ []
letter_of Reject = 82 ∷ []
letter_of _ = []
