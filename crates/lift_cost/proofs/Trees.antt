-- A rectangle is decided by at most one vector, and a case has at most one right tree.
use Rattle.std.proofs.Common.{◌≡◌, ℕ, ◌+◌, List, length, ℤ, pos, refl, sym, subst, ◌∙◌, arith}
use Rattle.std.proofs.lemmas.List.{ext_get_or}
use Rattle.lift_poly.proofs.Ring.{linear}
use Rattle.lift_grid.specs.Rectangle.{Spans}
use Rattle.lift_grid.specs.Tree.{lower_half, upper_half}
use Rattle.corner_lift.specs.Case.{CaseData}
use Rattle.corner_lift.specs.Certificate.{AtMost}
use Rattle.lift_walk.specs.Laws.{SplitAxesAreOne}
use Rattle.lift_walk.specs.Halved.{Halved}
use Rattle.lift_cost.specs.Decided.{AskedCost, DecidesCost, IsOpenCost, IsRightCost}
use Rattle.lift_cost.specs.Laws.{LeastCostsAreOne}

numbers_same : (x y : List ℤ) → length x ≡ length y → AtMost x y → AtMost y x → x ≡ y
numbers_same x y size a b = ext_get_or (pos 0) x y size (λ i lt. omega (arith, linear, a i, b i))

pub leaf_is_one : LeastCostsAreOne
leaf_is_one k a spans y z p q = numbers_same y z (p.0.priced.numbers.size ∙ sym q.0.priced.numbers.size) (p.0.least z q.0.priced) (q.0.least y p.0.priced)

pub decided_not_open : (k : CaseData) (a : AskedCost) (spans : Spans) (z : List ℤ) → DecidesCost k a spans z → IsOpenCost k a spans → ⊥
decided_not_open k a spans z d o = o z (record { priced = d.0.priced; limit = d.1 })

module _ (k : CaseData) (a : AskedCost) (axes : SplitAxesAreOne) where
  pub tree_is_one : (depth : ℕ) (ss : Spans) (t u : Halved (List ℤ)) → IsRightCost k a ss depth t → IsRightCost k a ss depth u → t ≡ u
  tree_is_one depth ss (Halved.leaf l) (Halved.leaf m) p q = let same : l ≡ m = leaf_is_one k a ss l m p q in cc
  tree_is_one depth ss (Halved.leaf l) (Halved.split axis lower upper) p q = absurd (decided_not_open k a ss l p q.0)
  tree_is_one depth ss (Halved.leaf l) Halved.unknown p q = absurd (decided_not_open k a ss l p q.0)
  tree_is_one depth ss (Halved.split axis lower upper) (Halved.leaf m) p q = absurd (decided_not_open k a ss m q p.0)
  tree_is_one depth ss (Halved.split axis lower upper) (Halved.split other low up) p q =
      let same : other ≡ axis = axes _ ss other axis q.1.axis_is p.1.axis_is in
      let lows : lower ≡ low = tree_is_one (depth + 1) (lower_half axis ss) lower low p.2 (subst (λ i. IsRightCost k a (lower_half i ss) (depth + 1) low) same q.2) in
      let ups : upper ≡ up = tree_is_one (depth + 1) (upper_half axis ss) upper up p.3 (subst (λ i. IsRightCost k a (upper_half i ss) (depth + 1) up) same q.3) in
      cc
  tree_is_one depth ss (Halved.split axis lower upper) Halved.unknown p q = absurd (omega (arith, p.1.left, q.1))
  tree_is_one depth ss Halved.unknown (Halved.leaf m) p q = absurd (decided_not_open k a ss m q p.0)
  tree_is_one depth ss Halved.unknown (Halved.split axis lower upper) p q = absurd (omega (arith, q.1.left, p.1))
  tree_is_one depth ss Halved.unknown Halved.unknown p q = refl
