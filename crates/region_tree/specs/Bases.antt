-- How a walk goes on from a tree that is given, node by node.
use Rattle.std.specs.Prelude.{◌≡◌, ℕ, ◌≤◌, List, ◌∷◌, ◌++◌}
use Rattle.std.specs.declared.option.Option.{Option}
use Rattle.lift_grid.specs.Rectangle.{Spans}
use Rattle.lift_grid.specs.Tree.{Tree}
use Rattle.lift_grid.specs.Tree.Tree.{split as split-tree, accept as accept-tree, reject as reject-tree, unknown as unknown-tree}
use Rattle.corner_lift.specs.Case.{CaseData}
use Rattle.lift_cert.specs.declared.bound.Bound.{Bound}
use Rattle.lift_finer.specs.Refined.{Refines, IsBase}
use Rattle.region_tree.specs.Nodes.{Node, nodes}
use Rattle.region_tree.specs.Nodes.Node.{split, accept, reject, unknown}
use Rattle.region_tree.specs.Right.{IsRight}
use Rattle.region_tree.specs.Visits.{Shows}
use Rattle.region_tree.specs.declared.base.Given.{Given}
use Rattle.region_tree.specs.declared.base.Given.TheVariants.{Split, Accept, Reject, Unknown}
use Rattle.region_tree.specs.declared.visitor.Seen.{Seen}
use Rattle.region_tree.specs.declared.visitor.Seen.TheVariants.{Kept}

-- that node was given: of a split with its axis, and of a leaf that decides with the bytes of its entry
abbrev pub IsGiven : (Node → List ℕ) → Node → Given → List ℕ → Type 0
IsGiven entry (split axis) (Split i) bytes = i ≡ axis
IsGiven entry (accept u x) Accept bytes = bytes ≡ entry (accept u x)
IsGiven entry (reject u r) Reject bytes = bytes ≡ entry (reject u r)
IsGiven entry unknown Unknown bytes = Unit {0}
IsGiven entry _ _ bytes = ⊥

-- each leaf that decides has a precision of at most w
abbrev pub HasPrecisionsTo : ℕ → Tree → Type 0
HasPrecisionsTo w (split-tree axis lower upper) = HasPrecisionsTo w lower × HasPrecisionsTo w upper
HasPrecisionsTo w (accept-tree u x) = u ≤ w
HasPrecisionsTo w (reject-tree u r) = u ≤ w
HasPrecisionsTo w unknown-tree = Unit {0}

-- the second tree is the first one with right trees in the place of its unknown leaves, for the precisions from v to the case's
abbrev pub IsRefined : CaseData → ℕ → Bound → Spans → ℕ → Tree → Tree → Type 0
IsRefined k v bound spans depth t refined = Refines (λ part place tree. IsRight k v part bound place tree) spans depth t refined

-- Of a base: whichever node was ahead, it is given, and what came after it is ahead then.
abbrev pub Gives : {B : Type 0} → (B → List Node → Type 0) → (Node → List ℕ) → (B → List ℕ) → B → B → Given → Type 0
Gives is_ahead entry bytes old new given = (node : Node) (rest : List Node) → is_ahead old (node ∷ rest) → IsGiven entry node given (bytes new) × is_ahead new rest

-- The nodes of a tree are ahead, and then those. The tree can be gone on from over a rectangle at a depth: its leaves that decide have certificates, at precisions of at most the case's, and its splits stand where the rectangle may be halved.
pub record IsOffered (is_ahead : List Node → Type 0) (k : CaseData) (bound : Bound) (spans : Spans) (depth : ℕ) (t : Tree) (rest : List Node) : Type 0 where
  pub ahead : is_ahead (nodes t ++ rest)
  pub base : IsBase k bound spans depth t
  pub precisions : HasPrecisionsTo k.w t

-- such a tree is ahead
abbrev pub OffersOne : (List Node → Type 0) → CaseData → Bound → Spans → ℕ → Type 0
OffersOne is_ahead k bound spans depth = (t : Tree) × ((rest : List Node) × IsOffered is_ahead k bound spans depth t rest)

-- What a walk over a rectangle at a depth did that goes on from a tree: whichever tree was ahead, one that refines it is shown, and where all was kept, what came after it is ahead.
abbrev pub GoesOn : {B V : Type 0} → CaseData → ℕ → Spans → Bound → ℕ → (B → List Node → Type 0) → B → B → (V → Option (List ℕ)) → (V → ℕ) → (Node → List ℕ) → V → V → Seen → Type 0
GoesOn k v spans bound depth is_ahead base after taken faults entry old new seen = (t : Tree) (rest : List Node) → IsOffered (is_ahead base) k bound spans depth t rest
    → Shows (λ refined. IsRefined k v bound spans depth t refined) taken faults entry old new seen × (seen ≡ Kept → is_ahead after rest)
