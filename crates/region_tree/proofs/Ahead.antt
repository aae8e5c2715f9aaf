-- What is given of a base, of the trees that are ahead.
use Rattle.std.proofs.Common.{◌≡◌, ℕ, List, ◌++◌, refl, sym, ap, subst, append_assoc}
use Rattle.lift_grid.specs.Rectangle.{spans_of}
use Rattle.corner_lift.specs.Case.{CaseData, IsCase, IsInside, AreSidesInside}
use Rattle.lift_cert.specs.Laws.{NotBothKindsAtAValuation}
use Rattle.lift_cert.specs.declared.bound.Bound.{Bound}
use Rattle.lift_grid.specs.Tree.{RejectData}
use Rattle.lift_range.specs.Laws.{AcceptingDoubles, RejectingDoubles}
use Rattle.lift_walk.specs.Halved.{Halved}
use Rattle.lift_walk.specs.Bases.{MayStand as MayStandBy}
use Rattle.region_tree.specs.Bases.{Gives}
use Rattle.region_tree.specs.Nodes.{Node, nodes}
use Rattle.lower_cert.specs.AnyRanks.{RanksFit}
use Rattle.region_tree.specs.Decided.{sought_for}
use Rattle.region_tree.specs.Recent.{DecidedData, NotesAccepted, NotesRejected}
use Rattle.region_tree.specs.Right.{Decision, tree_from}
use Rattle.region_tree.specs.Sides.{AreKnown}
use Rattle.region_tree.specs.Walking.{MayStand}
use Rattle.region_tree.specs.declared.base.Given.TheVariants.{Split, Accept, Reject, Unknown}
use Rattle.region_tree.proofs.Meeting.{accepted_too, accepting_rejects_none, meeting_rectangles_share, rejected_too, rejecting_accepts_none}
use Rattle.region_tree.proofs.Ranges.{accepting_at_last, rejecting_at_last}

module _ {B : Type 0} (is_ahead : B → List Node → Type 0) (bytes : B → List ℕ) (lines : Node → List ℕ) (old new : B) where
  abbrev After : Halved Decision → List Node → Type 0
  After t rest = is_ahead old (nodes (tree_from t) ++ rest)

  -- a split: both halves come then
  pub split_given : (axis : ℕ) → Gives is_ahead lines bytes old new (Split axis) → (t : Halved Decision) (rest : List Node) → After t rest
      → (a : Halved Decision) × ((b : Halved Decision) × ((t ≡ Halved.split axis a b) × is_ahead new (nodes (tree_from a) ++ (nodes (tree_from b) ++ rest))))
  split_given axis gives (Halved.split i a b) rest ahead =
      let given = gives (Node.split i) ((nodes (tree_from a) ++ nodes (tree_from b)) ++ rest) ahead in
      (a, (b, (ap (λ n. Halved.split n a b) (sym given.0), subst (is_ahead new) (append_assoc (nodes (tree_from a)) (nodes (tree_from b)) rest) given.1)))
  split_given axis gives (Halved.leaf (Decision.accept u x)) rest ahead = absurd ((gives (Node.accept u x) rest ahead).0)
  split_given axis gives (Halved.leaf (Decision.reject u r)) rest ahead = absurd ((gives (Node.reject u r) rest ahead).0)
  split_given axis gives Halved.unknown rest ahead = absurd ((gives Node.unknown rest ahead).0)

  -- a leaf that accepts, and its entry
  pub accept_given : Gives is_ahead lines bytes old new Accept → (t : Halved Decision) (rest : List Node) → After t rest
      → (u : ℕ) × ((x : List _) × ((t ≡ Halved.leaf (Decision.accept u x)) × ((bytes new ≡ lines (Node.accept u x)) × is_ahead new rest)))
  accept_given gives (Halved.split i a b) rest ahead = absurd ((gives (Node.split i) ((nodes (tree_from a) ++ nodes (tree_from b)) ++ rest) ahead).0)
  accept_given gives (Halved.leaf (Decision.accept u x)) rest ahead = let given = gives (Node.accept u x) rest ahead in (u, (x, (refl, (given.0, given.1))))
  accept_given gives (Halved.leaf (Decision.reject u r)) rest ahead = absurd ((gives (Node.reject u r) rest ahead).0)
  accept_given gives Halved.unknown rest ahead = absurd ((gives Node.unknown rest ahead).0)

  -- a leaf that rejects
  pub reject_given : Gives is_ahead lines bytes old new Reject → (t : Halved Decision) (rest : List Node) → After t rest
      → (u : ℕ) × ((r : RejectData) × ((t ≡ Halved.leaf (Decision.reject u r)) × ((bytes new ≡ lines (Node.reject u r)) × is_ahead new rest)))
  reject_given gives (Halved.split i a b) rest ahead = absurd ((gives (Node.split i) ((nodes (tree_from a) ++ nodes (tree_from b)) ++ rest) ahead).0)
  reject_given gives (Halved.leaf (Decision.accept u x)) rest ahead = absurd ((gives (Node.accept u x) rest ahead).0)
  reject_given gives (Halved.leaf (Decision.reject u r)) rest ahead = let given = gives (Node.reject u r) rest ahead in (u, (r, (refl, (given.0, given.1))))
  reject_given gives Halved.unknown rest ahead = absurd ((gives Node.unknown rest ahead).0)

  -- an unknown leaf
  pub unknown_given : Gives is_ahead lines bytes old new Unknown → (t : Halved Decision) (rest : List Node) → After t rest → (t ≡ Halved.unknown) × is_ahead new rest
  unknown_given gives (Halved.split i a b) rest ahead = absurd ((gives (Node.split i) ((nodes (tree_from a) ++ nodes (tree_from b)) ++ rest) ahead).0)
  unknown_given gives (Halved.leaf (Decision.accept u x)) rest ahead = absurd ((gives (Node.accept u x) rest ahead).0)
  unknown_given gives (Halved.leaf (Decision.reject u r)) rest ahead = absurd ((gives (Node.reject u r) rest ahead).0)
  unknown_given gives Halved.unknown rest ahead = (refl, (gives Node.unknown rest ahead).1)

-- a leaf of a base is noted: at the case's precision too it has its certificate, and so no rectangle that it shares a valuation with has one of the other kind
module _ {B : Type 0} (is_ahead : B → List Node → Type 0) (bytes : B → List ℕ) (lines : Node → List ℕ) (old new : B) (one_kind : NotBothKindsAtAValuation) (k : CaseData) (is : IsCase k) (bound : Bound) (sides : List _) (inside : AreSidesInside k.root sides) (before after : DecidedData) (known : AreKnown (sought_for bound) k before) where
  here : IsInside k.root (spans_of sides)
  here = record { rectangle = inside.rectangle.spans; within = inside.within }

  pub accept_noted : AcceptingDoubles → RanksFit → Gives is_ahead lines bytes old new Accept → (t : Halved Decision) (rest : List Node) → is_ahead old (nodes (tree_from t) ++ rest) → MayStandBy (MayStand k bound) (spans_of sides) t → NotesAccepted sides before after → AreKnown (sought_for bound) k after
  accept_noted doubles fit gives t rest ahead may notes =
      let g = accept_given is_ahead bytes lines old new gives t rest ahead in
      let stands : MayStandBy (MayStand k bound) (spans_of sides) (Halved.leaf (Decision.accept g.0 g.1.0)) = subst (MayStandBy (MayStand k bound) (spans_of sides)) g.1.1.0 may in
      let last = accepting_at_last doubles k (spans_of sides) bound g.0 stands.1 g.1.0 stands.0 in
      accepted_too (sought_for bound) k sides before after known (λ others there meet. accepting_rejects_none one_kind meeting_rectangles_share k is bound (spans_of sides) others here there meet fit last.0 last.1) notes

  pub reject_noted : RejectingDoubles → Gives is_ahead lines bytes old new Reject → (t : Halved Decision) (rest : List Node) → is_ahead old (nodes (tree_from t) ++ rest) → MayStandBy (MayStand k bound) (spans_of sides) t → NotesRejected sides before after → AreKnown (sought_for bound) k after
  reject_noted doubles gives t rest ahead may notes =
      let g = reject_given is_ahead bytes lines old new gives t rest ahead in
      let stands : MayStandBy (MayStand k bound) (spans_of sides) (Halved.leaf (Decision.reject g.0 g.1.0)) = subst (MayStandBy (MayStand k bound) (spans_of sides)) g.1.1.0 may in
      let last = rejecting_at_last doubles k (spans_of sides) bound g.0 stands.1 g.1.0 stands.0 in
      rejected_too (sought_for bound) k sides before after known (λ others there meet. rejecting_accepts_none one_kind meeting_rectangles_share k is bound (spans_of sides) others here there meet last.0 last.1) notes
