-- Trees over a finer grid: right ones, and what goes on where one ends.
use Rattle.std.proofs.Common.{◌≡◌, ℕ, ◌+◌, ◌-◌, ◌<◌, ◌≤◌, Bool, true, false, cond, ◌==◌, sym, subst, arith}
use Rattle.lift_grid.specs.Rectangle.{Spans}
use Rattle.lift_grid.specs.Splitting.{IsSplitAxis, IsHalvable, HasHalvings}
use Rattle.lift_grid.specs.Laws.{SpansAreHalvable}
use Rattle.lift_grid.specs.Tree.{Tree, lower_half, upper_half}
use Rattle.lift_grid.specs.Tree.Tree.{split, accept, reject, unknown}
use Rattle.lift_model.specs.Model.{live}
use Rattle.corner_lift.specs.Case.{CaseData, IsCase, at, greatest_depth}
use Rattle.corner_lift.specs.Laws.{LiveHasSpan}
use Rattle.lift_cert.specs.declared.bound.Bound.{Bound}
use Rattle.lift_walk.specs.Laws.{RootIsAtDepth, HalvesAreDeeper}
use Rattle.region_tree.specs.Right.{IsAtDepth, IsRight}
use Rattle.lift_finer.specs.Finer.{finer_spans, finer_case}
use Rattle.lift_finer.specs.Laws.{AcceptingStays, RejectingStays, SplitAxesStay, HalvesStay, RefinedBasesAreCertified}
use Rattle.lift_finer.specs.Refined.{Refines, IsCertified, IsBase}
use Rattle.lift_refine.specs.Deeper.{AreAsDeep}
use Rattle.lift_refine.specs.Laws.{OpenStays, AcceptedStays, RejectedStays, RightTreesStay, RefinedTreesAreRight, RefinedRightTrees, CertifiedTreesAreBases, RightTreesAreCertified, BasesWithRightTreesAreCertified}

-- ---- halves of rectangles on the way down

-- what is needed to go down to both halves: they stand one deeper, and over the finer grid they are the same halves
pub record Halved (k : CaseData) (n depth axis : ℕ) (spans : Spans) : Type 0 where
  pub lower : IsAtDepth k (depth + 1) (lower_half axis spans)
  pub upper : IsAtDepth k (depth + 1) (upper_half axis spans)
  pub lower_is : lower_half axis (finer_spans n spans) ≡ finer_spans n (lower_half axis spans)
  pub upper_is : upper_half axis (finer_spans n spans) ≡ finer_spans n (upper_half axis spans)

-- on the axis of the split rule, while a halving is left
pub AreHalved : Type 0
AreHalved = (k : CaseData) (n depth axis : ℕ) (spans : Spans) → IsCase k → IsAtDepth k depth spans → depth < greatest_depth k → IsSplitAxis (live k.model) spans axis → Halved k n depth axis spans

pub are_halved : HalvesAreDeeper → LiveHasSpan → SpansAreHalvable → HalvesStay → AreHalved
unfolding AreHalved
are_halved deeper live_spans halvable halves k n depth axis spans is at_depth left axis_is =
    let more = greatest_depth k - (depth + 1) in
    let one : greatest_depth k - depth ≡ more + 1 = omega (arith, left) in
    let can : IsHalvable axis spans = halvable more axis spans (subst (λ m. HasHalvings m spans) one at_depth.left) (live_spans k spans axis is at_depth.inside axis_is.is_live) in
    let below = deeper k spans depth axis is at_depth left axis_is in
    let stay = halves n axis spans can in
    record { lower = below.0; upper = below.1; lower_is = stay.0; upper_is = stay.1 }

-- ---- right trees

module _ (down : AreHalved) (axes : SplitAxesStay) (opens : OpenStays) (accepted : AcceptedStays) (rejected : RejectedStays)
    (k : CaseData) (root : Spans) (n limit v : ℕ) (bound : Bound) (is : IsCase k) (le : 1 ≤ n) where
  right_there : (t : Tree) (spans : Spans) (depth place : ℕ) → IsAtDepth k depth spans → AreAsDeep k depth (finer_case n root limit k) place
      → IsRight k v spans bound depth t → IsRight (finer_case n root limit k) v (finer_spans n spans) bound place t
  unfolding AreHalved
  right_there (accept u x) spans depth place at_depth same h = (accepted v bound u x k spans root n limit le).0 h
  right_there (reject u r) spans depth place at_depth same h = (rejected v bound u r k spans root n limit le).0 h
  right_there unknown spans depth place at_depth same h = ((opens v bound k spans root n limit le).0 h.0, omega (arith, same, h.1))
  right_there (split axis lower upper) spans depth place at_depth same h =
      let to = down k n depth axis spans is at_depth h.1.left h.1.axis_is in (
        (opens v bound k spans root n limit le).0 h.0,
        record { left = omega (arith, same, h.1.left); axis_is = (axes (live k.model) n spans axis le).0 h.1.axis_is },
        subst (λ part. IsRight (finer_case n root limit k) v part bound (place + 1) lower) (sym to.lower_is) (right_there lower (lower_half axis spans) (depth + 1) (place + 1) to.lower (omega (arith, same)) h.2),
        subst (λ part. IsRight (finer_case n root limit k) v part bound (place + 1) upper) (sym to.upper_is) (right_there upper (upper_half axis spans) (depth + 1) (place + 1) to.upper (omega (arith, same)) h.3),
      )

  right_here : (t : Tree) (spans : Spans) (depth place : ℕ) → IsAtDepth k depth spans → AreAsDeep k depth (finer_case n root limit k) place
      → IsRight (finer_case n root limit k) v (finer_spans n spans) bound place t → IsRight k v spans bound depth t
  unfolding AreHalved
  right_here (accept u x) spans depth place at_depth same h = (accepted v bound u x k spans root n limit le).1 h
  right_here (reject u r) spans depth place at_depth same h = (rejected v bound u r k spans root n limit le).1 h
  right_here unknown spans depth place at_depth same h = ((opens v bound k spans root n limit le).1 h.0, omega (arith, same, h.1))
  right_here (split axis lower upper) spans depth place at_depth same h =
      let left : depth < greatest_depth k = omega (arith, same, h.1.left) in
      let axis_is : IsSplitAxis (live k.model) spans axis = (axes (live k.model) n spans axis le).1 h.1.axis_is in
      let to = down k n depth axis spans is at_depth left axis_is in (
        (opens v bound k spans root n limit le).1 h.0,
        record { left = left; axis_is = axis_is },
        right_here lower (lower_half axis spans) (depth + 1) (place + 1) to.lower (omega (arith, same)) (subst (λ part. IsRight (finer_case n root limit k) v part bound (place + 1) lower) to.lower_is h.2),
        right_here upper (upper_half axis spans) (depth + 1) (place + 1) to.upper (omega (arith, same)) (subst (λ part. IsRight (finer_case n root limit k) v part bound (place + 1) upper) to.upper_is h.3),
      )

pub right_trees_stay : AreHalved → SplitAxesStay → OpenStays → AcceptedStays → RejectedStays → RightTreesStay
right_trees_stay down axes opens accepted rejected k spans root n limit v bound depth place t is at_depth le same = (
  right_there down axes opens accepted rejected k root n limit v bound is le t spans depth place at_depth same,
  right_here down axes opens accepted rejected k root n limit v bound is le t spans depth place at_depth same,
)

-- ---- trees that go on

deeper_or_dead : (b : Bool) (m n : ℕ) → m ≤ n → cond b 0 m ≤ cond b 0 n
deeper_or_dead true m n le = omega arith
deeper_or_dead false m n le = le

-- a greater depth gives no lesser greatest depth
as_deep : (k : CaseData) (root : Spans) (n limit : ℕ) → k.depth ≤ limit → greatest_depth k ≤ greatest_depth (finer_case n root limit k)
as_deep k root n limit le = deeper_or_dead (live k.model == 0) k.depth limit le

module _ (down : AreHalved) (axes : SplitAxesStay) (opens : OpenStays) (accepted : AcceptedStays) (rejected : RejectedStays)
    (k : CaseData) (root : Spans) (n limit v : ℕ) (bound : Bound) (is : IsCase k) (le : 1 ≤ n) (deep : greatest_depth k ≤ greatest_depth (finer_case n root limit k)) where
  refined_is_right : (t refined : Tree) (spans : Spans) (depth : ℕ) → IsAtDepth k depth spans → IsRight k v spans bound depth t
      → Refines (λ part place tree. IsRight (finer_case n root limit k) v part bound place tree) (finer_spans n spans) depth t refined
      → IsRight (finer_case n root limit k) v (finer_spans n spans) bound depth refined
  unfolding AreHalved
  refined_is_right (accept u x) refined spans depth at_depth h same = subst (λ tree. IsRight (finer_case n root limit k) v (finer_spans n spans) bound depth tree) same ((accepted v bound u x k spans root n limit le).0 h)
  refined_is_right (reject u r) refined spans depth at_depth h same = subst (λ tree. IsRight (finer_case n root limit k) v (finer_spans n spans) bound depth tree) same ((rejected v bound u r k spans root n limit le).0 h)
  refined_is_right unknown refined spans depth at_depth h below = below
  refined_is_right (split axis lower upper) (split other low up) spans depth at_depth h below =
      let to = down k n depth axis spans is at_depth h.1.left h.1.axis_is in
      let deeper = finer_case n root limit k in
      let P : Spans → ℕ → Tree → Type 0 = λ part place tree. IsRight deeper v part bound place tree in
      subst (λ a. IsRight deeper v (finer_spans n spans) bound depth (split a low up)) below.0 (
        (opens v bound k spans root n limit le).0 h.0,
        record { left = omega (arith, deep, h.1.left); axis_is = (axes (live k.model) n spans axis le).0 h.1.axis_is },
        subst (λ part. IsRight deeper v part bound (depth + 1) low) (sym to.lower_is) (refined_is_right lower low (lower_half axis spans) (depth + 1) to.lower h.2 (subst (λ part. Refines P part (depth + 1) lower low) to.lower_is below.1)),
        subst (λ part. IsRight deeper v part bound (depth + 1) up) (sym to.upper_is) (refined_is_right upper up (upper_half axis spans) (depth + 1) to.upper h.3 (subst (λ part. Refines P part (depth + 1) upper up) to.upper_is below.2)),
      )
  refined_is_right (split axis lower upper) refined spans depth at_depth h below = absurd below

pub refined_trees_are_right : AreHalved → SplitAxesStay → OpenStays → AcceptedStays → RejectedStays → RefinedTreesAreRight
refined_trees_are_right down axes opens accepted rejected k spans root n limit v bound depth t refined is at_depth le more =
    refined_is_right down axes opens accepted rejected k root n limit v bound is le (as_deep k root n limit more) t refined spans depth at_depth

pub refined_right_trees : RootIsAtDepth → RefinedTreesAreRight → RefinedRightTrees
refined_right_trees at_root refine k n limit v bound t refined is le more = refine k k.root (finer_spans n k.root) n limit v bound 0 t refined is (at_root k is) le more

-- ---- certified trees that go on

module _ (down : AreHalved) (axes : SplitAxesStay) (accepting : AcceptingStays) (rejecting : RejectingStays)
    (k : CaseData) (root : Spans) (n limit : ℕ) (bound : Bound) (is : IsCase k) (le : 1 ≤ n) (deep : greatest_depth k ≤ greatest_depth (finer_case n root limit k)) where
  base_there : (t : Tree) (spans : Spans) (depth : ℕ) → IsAtDepth k depth spans → IsCertified k bound spans depth t → IsBase (finer_case n root limit k) bound (finer_spans n spans) depth t
  unfolding AreHalved
  base_there (accept u x) spans depth at_depth h = (accepting bound x (at k u) spans root n limit le).0 h
  base_there (reject u r) spans depth at_depth h = (rejecting bound r (at k u) spans root n limit le).0 h
  base_there unknown spans depth at_depth h = omega (arith, deep, h)
  base_there (split axis lower upper) spans depth at_depth h =
      let to = down k n depth axis spans is at_depth h.0.left h.0.axis_is in
      let deeper = finer_case n root limit k in (
        record { left = omega (arith, deep, h.0.left); axis_is = (axes (live k.model) n spans axis le).0 h.0.axis_is },
        subst (λ part. IsBase deeper bound part (depth + 1) lower) (sym to.lower_is) (base_there lower (lower_half axis spans) (depth + 1) to.lower h.1),
        subst (λ part. IsBase deeper bound part (depth + 1) upper) (sym to.upper_is) (base_there upper (upper_half axis spans) (depth + 1) to.upper h.2),
      )

pub certified_trees_are_bases : AreHalved → SplitAxesStay → AcceptingStays → RejectingStays → CertifiedTreesAreBases
certified_trees_are_bases down axes accepting rejecting k spans root n limit bound depth t is at_depth le more =
    base_there down axes accepting rejecting k root n limit bound is le (as_deep k root n limit more) t spans depth at_depth

-- ---- bases with right trees

-- what holds of the trees in the place of unknown leaves, said in other words
module _ (P Q : Spans → ℕ → Tree → Type 0) (follows : (part : Spans) (place : ℕ) (tree : Tree) → P part place tree → Q part place tree) where
  follow : (t refined : Tree) (spans : Spans) (depth : ℕ) → Refines P spans depth t refined → Refines Q spans depth t refined
  follow (accept u x) refined spans depth h = h
  follow (reject u r) refined spans depth h = h
  follow unknown refined spans depth h = follows spans depth refined h
  follow (split axis lower upper) (split other low up) spans depth h = (h.0, follow lower low (lower_half axis spans) (depth + 1) h.1, follow upper up (upper_half axis spans) (depth + 1) h.2)
  follow (split axis lower upper) refined spans depth h = absurd h

module _ (k : CaseData) (v : ℕ) (bound : Bound) where
  right_is_certified : (t : Tree) (spans : Spans) (depth : ℕ) → IsRight k v spans bound depth t → IsCertified k bound spans depth t
  right_is_certified (accept u x) spans depth h = h.accepting
  right_is_certified (reject u r) spans depth h = h.rejecting
  right_is_certified unknown spans depth h = h.1
  right_is_certified (split axis lower upper) spans depth h =
      (record { left = h.1.left; axis_is = h.1.axis_is }, right_is_certified lower (lower_half axis spans) (depth + 1) h.2, right_is_certified upper (upper_half axis spans) (depth + 1) h.3)

pub right_trees_are_certified : RightTreesAreCertified
right_trees_are_certified k v bound spans depth t = right_is_certified k v bound t spans depth

pub bases_with_right_trees : RefinedBasesAreCertified → BasesWithRightTreesAreCertified
bases_with_right_trees refine k v bound spans depth t refined base below =
    refine k bound spans depth t refined base
    (follow (λ part place tree. IsRight k v part bound place tree) (IsCertified k bound) (λ part place tree. right_is_certified k v bound tree part place) t refined spans depth below)
