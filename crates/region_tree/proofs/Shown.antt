-- What a visitor is shown, and what a walk that shows it comes to.
use Rattle.std.proofs.Common.{◌≡◌, ℕ, ◌≤◌, List, ◌++◌, length, ℤ, refl, sym, ap, ◌∙◌, subst, arith, append-nil, Option, Result, Ok, Err, MatchResult, IfOk, le_trans}
use Rattle.std.specs.Io.KnownBytes.{Appends}
use Rattle.std.proofs.Math.Pow.{pow_mono}
use Rattle.std.proofs.lemmas.Grind.{flat_map-append}
use Rattle.lift_poly.proofs.Ring.{linear}
use Rattle.lift_grid.specs.Rectangle.{Spans}
use Rattle.lift_grid.specs.Tree.{Tree, RejectData}
use Rattle.lift_grid.specs.Tree.Tree.{split, accept, reject, unknown}
use Rattle.lift_model.specs.Valid.{most_states}
use Rattle.lift_cert.specs.declared.bound.Bound.{Bound}
use Rattle.corner_lift.specs.Case.{CaseData, IsCase, IsInside, at, most_precision}
use Rattle.corner_lift.specs.Certificate.{AreNumbers}
use Rattle.corner_lift.specs.Laws.{LowerPrecisionIsCase}
use Rattle.lift_range.specs.Range.{Between}
use Rattle.lift_walk.specs.Bases.{LeavesAreOne}
use Rattle.lift_walk.specs.Halved.{Halved, IsRightBy, preorder_text}
use Rattle.lift_walk.specs.Shown.{Took, Shows as ShowsHalved}
use Rattle.region_tree.proofs.Ranges.{accepted_is_no_open, rejected_is_no_open, accepted_is_no_rejected, accepted_is_one, rejected_is_one}
use Rattle.region_tree.specs.Laws.{LeastUppersAreOne, GreatestLowersAreOne}
use Rattle.region_tree.specs.Nodes.{Node, nodes}
use Rattle.region_tree.specs.Nodes.Node.{split as split-node, accept as accept-node, reject as reject-node, unknown as unknown-node}
use Rattle.region_tree.specs.Right.{Decides, Decision, IsAccepted, IsFirst, IsOpen, IsRejected, IsRightTree, halved_of, tree_from}
use Rattle.region_tree.specs.Visits.{AreShown, IsShown, Shows, Takes, Visits, entries}
use Rattle.region_tree.specs.Walking.{node_of}
use Rattle.region_tree.specs.declared.visitor.Seen.{Seen}
use Rattle.region_tree.specs.declared.visitor.Seen.TheVariants.{Kept, Failed}

pub kept_not_failed : Failed ≡ Kept → ⊥
kept_not_failed e = cc

-- what a visitor did with a node, as a result
pub took : {V T E : Type 0} (taken : V → Option (List ℕ)) (faults : V → ℕ) (old new : V) (seen : Seen) (entry : List ℕ) (result : Result T E) → MatchResult result (λ _. seen ≡ Kept) (λ _. seen ≡ Failed) → Visits taken faults old new seen entry → Took taken faults old new result entry
took taken faults old new seen entry (Ok x) is saw = record { whole = subst (λ s. Takes (taken old) (taken new) s entry) is saw.took; part = tt; cause = tt; later = saw.later }
took taken faults old new seen entry (Err e) is saw = record { whole = tt; part = subst (λ s. Takes (taken old) (taken new) s entry) is saw.took; cause = saw.cause is; later = saw.later }

-- nothing is asked of what stands for a tree
pub stands : {T E : Type 0} (result : Result T E) → IfOk result (λ _. Unit {0})
stands (Ok x) = tt
stands (Err e) = tt

-- ---- trees, seen as halved ones

pub tree_back : (t : Tree) → tree_from (halved_of t) ≡ t
tree_back (split axis a b) = let low : tree_from (halved_of a) ≡ a = tree_back a in let up : tree_from (halved_of b) ≡ b = tree_back b in cc
tree_back (accept u x) = refl
tree_back (reject u r) = refl
tree_back unknown = refl

pub halved_back : (t : Halved Decision) → halved_of (tree_from t) ≡ t
halved_back (Halved.split axis a b) = ap (λ x. Halved.split axis x (halved_of (tree_from b))) (halved_back a) ∙ ap (λ x. Halved.split axis a x) (halved_back b)
halved_back (Halved.leaf (Decision.accept u x)) = refl
halved_back (Halved.leaf (Decision.reject u r)) = refl
halved_back Halved.unknown = refl

-- the entries of a tree's nodes are its text
pub text_is : (entry : Node → List ℕ) (t : Tree) → preorder_text (λ axis. entry (split-node axis)) (λ l. entry (node_of l)) (entry unknown-node) (halved_of t) ≡ entries entry t
text_is entry (split axis a b) =
    ap (λ r. entry (split-node axis) ++ (r ++ preorder_text (λ i. entry (split-node i)) (λ l. entry (node_of l)) (entry unknown-node) (halved_of b))) (text_is entry a)
    ∙ ap (λ r. entry (split-node axis) ++ (entries entry a ++ r)) (text_is entry b)
    ∙ sym (ap (λ r. entry (split-node axis) ++ r) (flat_map-append entry (nodes a) (nodes b)))
text_is entry (accept u x) = sym (append-nil (entry (accept-node u x)))
text_is entry (reject u r) = sym (append-nil (entry (reject-node u r)))
text_is entry unknown = sym (append-nil (entry unknown-node))

-- a rectangle has at most one leaf that decides it, and none where it is open
pub leaves_are_one : LeastUppersAreOne → LowerPrecisionIsCase → GreatestLowersAreOne → (k : CaseData) (v : ℕ) (bound : Bound) → IsCase k → 1 ≤ v → LeavesAreOne k (Decides k v bound) (λ part. IsOpen k v part bound)
leaves_are_one uppers lower_case lowers k v bound is positive = record { one = one; none = none }
  where
    one : (spans : Spans) (l m : Decision) → IsInside k.root spans → Decides k v bound spans l → Decides k v bound spans m → l ≡ m
    one spans (Decision.accept u x) (Decision.accept t y) inside h g = (let same = accepted_is_one k v spans bound uppers u t x y h g in let precision : u ≡ t = same.0 in let numbers : x ≡ y = same.1 in cc)
    one spans (Decision.accept u x) (Decision.reject t q) inside h g = absurd (accepted_is_no_rejected k v spans bound u t x q h g)
    one spans (Decision.reject u r) (Decision.accept t y) inside h g = absurd (accepted_is_no_rejected k v spans bound t u y r g h)
    one spans (Decision.reject u r) (Decision.reject t q) inside h g = (let same = rejected_is_one k v spans bound lower_case lowers is positive inside u t r q h g in let precision : u ≡ t = same.0 in let data_same : r ≡ q = same.1 in cc)

    none : (spans : Spans) (l : Decision) → IsInside k.root spans → Decides k v bound spans l → IsOpen k v spans bound → ⊥
    none spans (Decision.accept u x) inside h o = accepted_is_no_open k v spans bound u x h o
    none spans (Decision.reject u r) inside h o = rejected_is_no_open k v spans bound u r h o

-- what a walk shows of halved trees, it shows of trees
pub shown : {V T E : Type 0} (Is : Halved Decision → Type 0) (is_part : Halved Decision → T → Type 0) (taken : V → Option (List ℕ)) (faults : V → ℕ) (entry : Node → List ℕ) (old new : V) (result : Result T E) (seen : Seen) → MatchResult result (λ _. seen ≡ Kept) (λ _. seen ≡ Failed)
    → ShowsHalved Is is_part (preorder_text (λ axis. entry (split-node axis)) (λ l. entry (node_of l)) (entry unknown-node)) taken faults old new result → Shows (λ t. Is (halved_of t)) taken faults entry old new seen
shown Is is_part taken faults entry old new (Ok x) seen is s = record {
  tree = λ _. (tree_from s.tree.0, subst Is (sym (halved_back s.tree.0)) s.tree.1.0);
  took = λ t right. subst (λ e. Takes (taken old) (taken new) e (entries entry t)) (sym is) (subst (Appends (taken old) (taken new)) (text_is entry t) (s.whole (halved_of t) right));
  cause = λ e. absurd (kept_not_failed (sym e ∙ is));
  later = s.later;
}
shown Is is_part taken faults entry old new (Err e) seen is s = record {
  tree = λ e. absurd (kept_not_failed (sym is ∙ e));
  took = λ t right. subst (λ e. Takes (taken old) (taken new) e (entries entry t)) (sym is) (subst (Takes (taken old) (taken new) Failed) (text_is entry t) (s.part (halved_of t) right));
  cause = λ _. s.cause;
  later = s.later;
}

-- ---- what can be shown

numbers_shown : (k : CaseData) (u : ℕ) (x : List ℤ) → IsCase k → u ≤ k.w → AreNumbers (at k u) x → AreShown (length k.model.states) x
numbers_shown k u x is most h = record {
  size = h.size;
  range = λ i d lt. (let r = h.range i d lt in (r.0, (let p = pow_mono {j = most_precision} (le_trans most is.asked.precision.1) in omega (arith, linear, r.1, p))));
}

-- the precision of a leaf is from 1 to the case's
pub precision_shown : (k : CaseData) (v : ℕ) (ss : Spans) (bound : Bound) (u : ℕ) → 1 ≤ v → IsFirst k v ss bound u → Between 1 k.w u
precision_shown k v ss bound u positive h = (le_trans positive h.between.0, h.between.1)

pub upper_shown : (k : CaseData) (v : ℕ) (ss : Spans) (bound : Bound) (u : ℕ) (x : List ℤ) → IsCase k → IsAccepted k v ss bound u x → AreShown (length k.model.states) x
upper_shown k v ss bound u x is h = numbers_shown k u x is h.first.between.1 h.accepting.upper.numbers

pub lower_shown : (k : CaseData) (v : ℕ) (ss : Spans) (bound : Bound) (u : ℕ) (r : RejectData) → IsCase k → IsRejected k v ss bound u r → r.k ≤ most_states → IsShown (length k.model.states) r
lower_shown k v ss bound u r is h small =
    let holds = h.rejecting.holds in
    record { numbers = numbers_shown k u r.numbers is h.first.between.1 holds.numbers; picks = holds.sizes.0; ranks = holds.sizes.1; e = holds.bounds.0; k = (holds.bounds.1, small) }

-- what stands for a right tree that was built is one
pub right_built : {O T E : Type 0} (k : CaseData) (v : ℕ) (bound : Bound) (made : T → Tree) (text : Halved Decision → List ℕ) (taken : O → Option (List ℕ)) (faults : O → ℕ) (old new : O) (result : Result T E)
    → ShowsHalved (IsRightBy (Decides k v bound) (λ part. IsOpen k v part bound) k k.root 0) (λ t part. made part ≡ tree_from t) text taken faults old new result → IfOk result (λ part. IsRightTree k v bound (made part))
right_built k v bound made text taken faults old new (Ok part) s =
    subst (λ t. IsRightBy (Decides k v bound) (λ part. IsOpen k v part bound) k k.root 0 t) (sym (ap halved_of s.tree.1.1 ∙ halved_back s.tree.0)) s.tree.1.0
right_built k v bound made text taken faults old new (Err e) s = tt
