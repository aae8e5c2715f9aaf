-- What holds of right trees, for who reasons about them.
use Rattle.std.specs.Prelude.{◌≡◌, ℕ, ◌<◌, ◌≤◌, List, ℤ, map}
use Rattle.std.specs.declared.option.Option.{Option}
use Rattle.std.specs.Io.KnownBytes.{Appends}
use Rattle.lift_base.specs.Outside.{Rose}
use Rattle.lift_poly.specs.Polynomial.{Valuation}
use Rattle.lift_grid.specs.Rectangle.{Spans, Inside}
use Rattle.lift_grid.specs.Splitting.{IsSplitAxis}
use Rattle.lift_grid.specs.Tree.{Tree, RejectData, Tiles, leaves}
use Rattle.lift_model.specs.Links.{LinksData}
use Rattle.lift_model.specs.Model.{ModelData, live}
use Rattle.corner_lift.specs.Case.{CaseData, IsCase, IsInside, greatest_depth}
use Rattle.corner_lift.specs.Certificate.{IsLeastUpper}
use Rattle.corner_lift.specs.Stages.{IsGreatestLower}
use Rattle.lift_cert.specs.declared.bound.Bound.{Bound}
use Rattle.region_tree.specs.Nodes.{Node}
pub use Rattle.lift_walk.specs.Laws.{RootIsAtDepth, HalvesAreDeeper, SplitAxesAreOne}
use Rattle.region_tree.specs.Recent.{Meet, forgotten}
use Rattle.region_tree.specs.Right.{IsRightTree}
use Rattle.region_tree.specs.Rooms.{LanesData, HasLanes, KeepsShape}
use Rattle.region_tree.specs.Visits.{Walks, entries}
use Rattle.region_tree.specs.declared.visitor.Seen.{Seen}

-- a case has a right tree for each bound and each range of precisions
abbrev pub RightTreesExist : Type 0
RightTreesExist = (k : CaseData) (v : ℕ) (bound : Bound) → IsCase k → 1 ≤ v → (tree : Tree) × IsRightTree k v bound tree

-- a rectangle inside the root has a least upper vector
abbrev pub LeastUppersExist : Type 0
LeastUppersExist = (k : CaseData) (spans : Spans) → IsCase k → IsInside k.root spans → (x : List ℤ) × IsLeastUpper k spans x

-- a rectangle inside the root has a greatest lower vector, with ranks, choices, e and k
abbrev pub GreatestLowersExist : Type 0
GreatestLowersExist = (k : CaseData) (spans : Spans) → IsCase k → IsInside k.root spans → (r : RejectData) × IsGreatestLower k spans r

-- while a halving is left, the split rule chooses an axis
abbrev pub SplitAxesExist : Type 0
SplitAxesExist = (k : CaseData) (spans : Spans) (depth : ℕ) → IsCase k → IsInside k.root spans → depth < greatest_depth k → (axis : ℕ) × IsSplitAxis (live k.model) spans axis

-- a case has at most one right tree for a bound and a range of precisions
abbrev pub RightTreesAreOne : Type 0
RightTreesAreOne = (k : CaseData) (v : ℕ) (bound : Bound) (tree other : Tree) → IsCase k → 1 ≤ v → IsRightTree k v bound tree → IsRightTree k v bound other → tree ≡ other

-- a rectangle has at most one least upper vector
abbrev pub LeastUppersAreOne : Type 0
LeastUppersAreOne = (k : CaseData) (spans : Spans) (x y : List ℤ) → IsLeastUpper k spans x → IsLeastUpper k spans y → x ≡ y

-- a rectangle inside the root has at most one greatest lower vector, with one list of ranks, one of choices, one e and one k
abbrev pub GreatestLowersAreOne : Type 0
GreatestLowersAreOne = (k : CaseData) (spans : Spans) (r q : RejectData) → IsCase k → IsInside k.root spans → IsGreatestLower k spans r → IsGreatestLower k spans q → r ≡ q

-- the leaves of a right tree tile the root
abbrev pub RightTreesTile : Type 0
RightTreesTile = (k : CaseData) (v : ℕ) (bound : Bound) (tree : Tree) → IsCase k → IsRightTree k v bound tree → Tiles k.d k.root (map (λ leaf. leaf.spans) (leaves k.root 0 tree))

-- two rectangles inside the root that meet share a valuation
abbrev pub MeetingRectanglesShare : Type 0
MeetingRectanglesShare = (k : CaseData) (spans others : Spans) → IsCase k → IsInside k.root spans → IsInside k.root others → Meet spans others → (v : Valuation) × (Inside k.d spans v × Inside k.d others v)

-- ---- lanes

-- lanes have the shape that they have
abbrev pub ShapesStay : Type 0
ShapesStay = (a : LanesData) → KeepsShape a a

-- what keeps the shape of what keeps a shape keeps that one
abbrev pub ShapesChain : Type 0
ShapesChain = (a b c : LanesData) → KeepsShape a b → KeepsShape b c → KeepsShape a c

-- lanes keep their shape where it is forgotten which rectangles were decided
abbrev pub ForgettingKeepsShape : Type 0
ForgettingKeepsShape = (a : LanesData) → KeepsShape a (record a { decided = forgotten a.decided })

-- what keeps the shape of all lanes for a model are all lanes for it
abbrev pub LanesAreKept : Type 0
LanesAreKept = (m : ModelData) (l : LinksData) (a b : LanesData) → KeepsShape a b → HasLanes m l a → HasLanes m l b

-- ---- walks

-- a walk over a visitor that counts no fault offers the nodes of the right tree, whole and in preorder
abbrev pub CalmWalksShowAll : {V : Type 0} → (V → Option (List ℕ)) → (V → ℕ) → Type 0
CalmWalksShowAll {V} taken faults = (k : CaseData) (v : ℕ) (bound : Bound) (tree : Tree) (entry : Node → List ℕ) (old new : V) (seen : Seen) → IsRightTree k v bound tree
    → Walks k v k.root bound 0 taken faults entry old new seen → (Rose (faults old) (faults new) → ⊥) → Appends (taken old) (taken new) (entries entry tree)
