-- What a walk over the tree of a case works in, and what it knows of its nodes.
use Rattle.std.specs.Prelude.{◌≡◌, ℕ, ◌≤◌, List, length}
use Rattle.std.specs.Borrow.{GName}
use Rattle.lift_grid.specs.Rectangle.{Spans}
use Rattle.lift_model.specs.Links.{LinksData, AreLinks}
use Rattle.corner_lift.specs.Case.{CaseData, at}
use Rattle.lift_cert.specs.Certificate.{IsAccepting, IsRejecting}
use Rattle.lift_cert.specs.declared.bound.Bound.{Bound}
use Rattle.lift_range.specs.Range.{Between}
use Rattle.region_tree.specs.Decided.{lane, reject_in, sought_for}
use Rattle.region_tree.specs.Nodes.{Node}
use Rattle.region_tree.specs.Right.{Decision}
use Rattle.region_tree.specs.Rooms.{LanesData, HasLanes, KeepsShape}
use Rattle.region_tree.specs.Sides.{AreKnown}
use Rattle.region_tree.specs.declared.pools.Pools.{Pools}
use Rattle.region_tree.specs.declared.side.Found.{Found}
use Rattle.region_tree.specs.declared.side.Side.TheVariants.{Above, Below}

-- The lanes are those that were made for a case, and what is noted tells of other rectangles; the least precision is from 1 to the case's. What else they hold is free.
pub record AreReady (k : CaseData) (l : LinksData) (bound : Bound) (from : ℕ) (made lanes : LanesData) : Type 0 where
  pub links : AreLinks k.model l
  pub range : Between 1 k.w from
  pub has : HasLanes k.model l lanes
  pub shape : KeepsShape made lanes
  pub known : AreKnown (sought_for bound) k lanes.decided

-- the leaf that was found, by the certificate that stands in the lanes
abbrev pub leaf_in : Pools → Found → Decision
leaf_in p found = elim found.side [ Above ↦ Decision.accept found.u (lane p.values) | Below rate ↦ Decision.reject found.u (reject_in p rate.e rate.k) ]

-- the node of a leaf
abbrev pub node_of : Decision → Node
node_of (Decision.accept u x) = Node.accept u x
node_of (Decision.reject u r) = Node.reject u r

-- what no call changes of a visitor
pub record VisitorData : Type 0 where
  pub states : ℕ
  pub precision : ℕ
  pub entry : Node → List ℕ
  pub reference : GName

-- it takes the nodes of a case's tree
pub record IsVisitorOf (k : CaseData) (v : VisitorData) : Type 0 where
  pub states : v.states ≡ length k.model.states
  pub precision : v.precision ≡ k.w

-- the leaf may stand at the rectangle: it has a certificate, at a precision of at most the case's
abbrev pub MayStand : CaseData → Bound → Spans → Decision → Type 0
MayStand k bound spans (Decision.accept u x) = IsAccepting (at k u) spans bound x × (u ≤ k.w)
MayStand k bound spans (Decision.reject u r) = IsRejecting (at k u) spans bound r × (u ≤ k.w)
