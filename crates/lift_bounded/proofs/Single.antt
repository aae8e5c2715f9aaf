-- There is at most one list of least upper vectors, one of greatest lower ones with their choices, and so one right tree.
use Rattle.std.proofs.Common.{◌≡◌, ℕ, zero, suc, ◌+◌, ◌<◌, ◌≤◌, ◌⊎◌, ⊎_elim, true, false, List, [], length, ℤ, pos, refl, sym, ap, ◌∙◌, subst, arith, ext_get_or}
use Rattle.lift_poly.proofs.Ring.{linear}
use Rattle.lift_grid.specs.Rectangle.{Spans}
use Rattle.lift_grid.specs.Tree.{lower_half, upper_half}
use Rattle.lift_model.specs.Model.{is_goal}
use Rattle.corner_lift.specs.Case.{CaseData, number}
use Rattle.corner_lift.specs.Certificate.{AreNumbers, AtMost, mark, unmarked}
use Rattle.lift_cert.specs.declared.bound.Bound.{Bound}
use Rattle.lift_walk.specs.Laws.{SplitAxesAreOne}
use Rattle.lift_walk.specs.Halved.{Halved}
use Rattle.lift_bounded.specs.Steps.{nth, AreUppers, LowersData, AreLowers, AreGreatestLowers, IsHeldBy}
use Rattle.lift_bounded.specs.Decided.{BoundedLeaf, DecidesWithin, IsOpenWithin, IsRightWithin}
use Rattle.lift_bounded.specs.Laws.{LeastUppersAreOne, GreatestLowersAreOne}
use Rattle.lift_bounded.proofs.Inside.{true_or_false}

numbers_same : (x y : List ℤ) → length x ≡ length y → AtMost x y → AtMost y x → x ≡ y
numbers_same x y size a b = ext_get_or (pos 0) x y size (λ i lt. omega (arith, linear, a i, b i))

in_order : (a b : ℕ) → (a < b) ⊎ ((a ≡ b) ⊎ (b < a))
in_order a b = grind arith

-- ---- vectors

module _ (k : CaseData) (spans : Spans) (h : ℕ) where
  pub upper_numbers : (xs : List (List ℤ)) → AreUppers k spans h xs → (n : ℕ) → n ≤ h → AreNumbers k (nth xs n)
  upper_numbers xs uppers zero le = uppers.start.numbers
  upper_numbers xs uppers (suc n) le = let next : n + 1 ≡ suc n = omega arith in subst (λ i. AreNumbers k (nth xs i)) next (uppers.steps n (omega (arith, le))).numbers

  pub lower_numbers : (r : LowersData) → AreLowers k spans h r → (n : ℕ) → n ≤ h → AreNumbers k (nth r.numbers n)
  lower_numbers r lowers zero le = lowers.start.numbers
  lower_numbers r lowers (suc n) le = let next : n + 1 ≡ suc n = omega arith in subst (λ i. AreNumbers k (nth r.numbers i)) next (lowers.steps n (omega (arith, le))).numbers

pub least_uppers_are_one : LeastUppersAreOne
least_uppers_are_one k spans h xs ys a b = ext_get_or [] xs ys (a.uppers.count ∙ sym b.uppers.count)
    (λ i lt.
    let le : i ≤ h = omega (arith, lt, a.uppers.count) in
    let size : length (nth xs i) ≡ length (nth ys i) = (upper_numbers k spans h xs a.uppers i le).size ∙ sym (upper_numbers k spans h ys b.uppers i le).size in
    numbers_same (nth xs i) (nth ys i) size (a.least ys b.uppers i le) (b.least xs a.uppers i le))

-- ---- vectors with picks

lowers_same : (r q : LowersData) → r.numbers ≡ q.numbers → r.picks ≡ q.picks → r ≡ q
lowers_same r q a b =
    let first : r ≡ record r { numbers = q.numbers } = ap (λ (n : List (List ℤ)). let x : LowersData = record r { numbers = n } in x) a in
    let second : record r { numbers = q.numbers } ≡ q = ap (λ (n : List (List ℕ)). let x : LowersData = record { numbers = q.numbers; picks = n } in x) b in
    first ∙ second

module _ (k : CaseData) (spans : Spans) (h : ℕ) where
  -- no chosen row of the second is below that of the first
  not_below : (r q : LowersData) → AreGreatestLowers k spans h r → AreGreatestLowers k spans h q → q.numbers ≡ r.numbers → (i s : ℕ) → i < h → s < length k.model.states → is_goal k.model s ≡ false → mark (nth q.picks i) s < mark (nth r.picks i) s → ⊥
  not_below r q a b same i s lt state g less =
      let held : IsHeldBy k spans (nth q.numbers i) s (mark (nth q.picks i) s) (number (nth q.numbers (i + 1)) s) = (b.lowers.steps i lt).held s state g in
      a.lowest i s (mark (nth q.picks i) s) lt g less (subst (λ ns. IsHeldBy k spans (nth ns i) s (mark (nth q.picks i) s) (number (nth ns (i + 1)) s)) same held)

  module _ (r q : LowersData) (a : AreGreatestLowers k spans h r) (b : AreGreatestLowers k spans h q) where
    numbers_one : r.numbers ≡ q.numbers
    numbers_one = ext_get_or [] r.numbers q.numbers (a.lowers.counts.0 ∙ sym b.lowers.counts.0)
        (λ i lt.
        let le : i ≤ h = omega (arith, lt, a.lowers.counts.0) in
        let size : length (nth r.numbers i) ≡ length (nth q.numbers i) = (lower_numbers k spans h r a.lowers i le).size ∙ sym (lower_numbers k spans h q b.lowers i le).size in
        numbers_same (nth r.numbers i) (nth q.numbers i) size (b.greatest r a.lowers i le) (a.greatest q b.lowers i le))

    choice_one : (i s : ℕ) → i < h → s < length k.model.states → mark (nth r.picks i) s ≡ mark (nth q.picks i) s
    choice_one i s lt state = ⊎_elim
        (λ (g : is_goal k.model s ≡ true). ((a.lowers.steps i lt).goal s g).1 ∙ sym ((b.lowers.steps i lt).goal s g).1)
        (λ (g : is_goal k.model s ≡ false). ⊎_elim
        (λ (less : mark (nth r.picks i) s < mark (nth q.picks i) s). absurd (not_below q r b a numbers_one i s lt state g less))
        (λ (rest : (mark (nth r.picks i) s ≡ mark (nth q.picks i) s) ⊎ (mark (nth q.picks i) s < mark (nth r.picks i) s)). ⊎_elim
        (λ (same : mark (nth r.picks i) s ≡ mark (nth q.picks i) s). same)
        (λ (more : mark (nth q.picks i) s < mark (nth r.picks i) s). absurd (not_below r q a b (sym numbers_one) i s lt state g more))
        rest)
        (in_order (mark (nth r.picks i) s) (mark (nth q.picks i) s)))
        (true_or_false (is_goal k.model s))

    choices_one : r.picks ≡ q.picks
    choices_one = ext_get_or [] r.picks q.picks (a.lowers.counts.1 ∙ sym b.lowers.counts.1)
        (λ i lt.
        let below : i < h = omega (arith, lt, a.lowers.counts.1) in
        let size = (a.lowers.steps i below).size in
        ext_get_or unmarked (nth r.picks i) (nth q.picks i) (size ∙ sym (b.lowers.steps i below).size) (λ s less. choice_one i s below (omega (arith, less, size))))

pub greatest_lowers_are_one : GreatestLowersAreOne
greatest_lowers_are_one k spans h r q a b = lowers_same r q (numbers_one k spans h r q a b) (choices_one k spans h r q a b)

-- ---- leaves and trees

module _ (k : CaseData) (bound : Bound) (h : ℕ) where
  pub decided_not_open : (spans : Spans) (l : BoundedLeaf) → DecidesWithin k bound h spans l → IsOpenWithin k bound h spans → ⊥
  decided_not_open spans (BoundedLeaf.accept xs) d o = o.0 xs d.0
  decided_not_open spans (BoundedLeaf.reject r) d o = o.1 r d.1

  module _ (least : LeastUppersAreOne) (greatest : GreatestLowersAreOne) where
    pub leaf_is_one : (spans : Spans) (l m : BoundedLeaf) → DecidesWithin k bound h spans l → DecidesWithin k bound h spans m → l ≡ m
    leaf_is_one spans (BoundedLeaf.accept xs) (BoundedLeaf.accept ys) d e = ap (λ x. BoundedLeaf.accept x) (least k spans h xs ys d.1 e.1)
    leaf_is_one spans (BoundedLeaf.accept xs) (BoundedLeaf.reject q) d e = absurd (e.0 xs d.0)
    leaf_is_one spans (BoundedLeaf.reject r) (BoundedLeaf.accept ys) d e = absurd (d.0 ys e.0)
    leaf_is_one spans (BoundedLeaf.reject r) (BoundedLeaf.reject q) d e = ap (λ x. BoundedLeaf.reject x) (greatest k spans h r q d.2 e.2)

    module _ (axes : SplitAxesAreOne) where
      pub tree_is_one : (depth : ℕ) (ss : Spans) (t u : Halved BoundedLeaf) → IsRightWithin k bound h ss depth t → IsRightWithin k bound h ss depth u → t ≡ u
      tree_is_one depth ss (Halved.leaf l) (Halved.leaf m) p q = ap (λ x. Halved.leaf x) (leaf_is_one ss l m p q)
      tree_is_one depth ss (Halved.leaf l) (Halved.split axis lower upper) p q = absurd (decided_not_open ss l p q.0)
      tree_is_one depth ss (Halved.leaf l) Halved.unknown p q = absurd (decided_not_open ss l p q.0)
      tree_is_one depth ss (Halved.split axis lower upper) (Halved.leaf m) p q = absurd (decided_not_open ss m q p.0)
      tree_is_one depth ss (Halved.split axis lower upper) (Halved.split other low up) p q =
          let same : other ≡ axis = axes _ ss other axis q.1.axis_is p.1.axis_is in
          let lows : lower ≡ low = tree_is_one (depth + 1) (lower_half axis ss) lower low p.2 (subst (λ a. IsRightWithin k bound h (lower_half a ss) (depth + 1) low) same q.2) in
          let ups : upper ≡ up = tree_is_one (depth + 1) (upper_half axis ss) upper up p.3 (subst (λ a. IsRightWithin k bound h (upper_half a ss) (depth + 1) up) same q.3) in
          cc
      tree_is_one depth ss (Halved.split axis lower upper) Halved.unknown p q = absurd (omega (arith, p.1.left, q.1))
      tree_is_one depth ss Halved.unknown (Halved.leaf m) p q = absurd (decided_not_open ss m q p.0)
      tree_is_one depth ss Halved.unknown (Halved.split axis lower upper) p q = absurd (omega (arith, q.1.left, p.1))
      tree_is_one depth ss Halved.unknown Halved.unknown p q = refl
