-- A case has a right tree for costs, a cap and a budget: the initial state's number in the least priced vector is within the budget, or the rectangle is open, as it is where there is no priced vector.
use Rattle.std.proofs.Common.{◌*◌, ◌^◌, ◌⊎◌, inl, inr, ⊎_elim, List, ℤ, pos, ◌*ℤ◌}
use Rattle.std.proofs.lemmas.Int.{by_lt_z}
use Rattle.lift_grid.specs.Rectangle.{Spans}
use Rattle.corner_lift.specs.Case.{CaseData, IsCase, IsInside, number}
use Rattle.corner_lift.specs.Laws.{LiveHasSpan}
use Rattle.lift_walk.specs.Laws.{RootIsAtDepth, HalvesAreDeeper}
use Rattle.rounded_iter.specs.Priced.{IsPriced, IsLeastPriced}
use Rattle.lift_cost.specs.Certificate.{price_over}
use Rattle.lift_cost.specs.Decided.{AskedCost, DecidesCost, IsOpenCost}
use Rattle.lift_cost.specs.Laws.{LeastPricedRefutes, LeastPricedOrNone, CostTreesExist}
use Rattle.lift_cost.proofs.Halving.{right_tree}

module _ (least_or_none : LeastPricedOrNone) (refutes : LeastPricedRefutes) (k : CaseData) (a : AskedCost) (is : IsCase k) where
  abbrev Outcome : Spans → Type 0
  Outcome ss = ((z : List ℤ) × DecidesCost k a ss z) ⊎ IsOpenCost k a ss

  pub outcome : (ss : Spans) → IsInside k.root ss → Outcome ss
  outcome ss inside =
      let prices = price_over k.w a.costs a.cap in
      ⊎_elim
      (λ (found : (z : List ℤ) × IsLeastPriced k ss prices z).
      let n = number found.0 k.model.init in
      by_lt_z (pos a.budget.num *ℤ pos (2 ^ k.w)) (n *ℤ pos (a.cap * a.budget.den))
      (λ beyond. let open_one : Outcome ss = inr (refutes k ss a.costs a.cap a.budget found.0 found.1 beyond) in open_one)
      (λ within. let yes : Outcome ss = inl (found.0, (found.1, within)) in yes))
      (λ (none : (y : List ℤ) → IsPriced k ss prices y → ⊥). let open_one : Outcome ss = inr (λ y certificate. none y certificate.priced) in open_one)
      (least_or_none k ss prices is inside)

pub cost_trees_exist : LeastPricedOrNone → LeastPricedRefutes → LiveHasSpan → RootIsAtDepth → HalvesAreDeeper → CostTreesExist
cost_trees_exist least_or_none refutes has_span root halves k a is =
    right_tree (DecidesCost k a) (IsOpenCost k a) has_span halves k is (outcome least_or_none refutes k a is) (root k is)
