-- What holds of cost certificates, for who reasons about them.
use Rattle.std.specs.Prelude.{◌≡◌, ℕ, ◌≤◌, ◌*◌, ◌^◌, List, ℤ, pos, ◌*ℤ◌, ◌<ℤ◌, ◌⊎◌}
use Rattle.lift_poly.specs.Polynomial.{Valuation}
use Rattle.lift_grid.specs.Rectangle.{Spans, Inside}
use Rattle.corner_lift.specs.Case.{CaseData, IsCase, IsInside, number}
use Rattle.lift_walk.specs.Halved.{Halved}
use Rattle.lift_costs.specs.Costs.{CostData}
use Rattle.rounded_iter.specs.Priced.{IsPriced, IsLeastPriced}
use Rattle.lift_cost.specs.Expected.{AreCosts}
use Rattle.lift_cost.specs.Certificate.{BudgetData, IsCostCertificate, price_over}
use Rattle.lift_cost.specs.Paid.{IsPaidAt}
use Rattle.lift_cost.specs.Decided.{AskedCost, DecidesCost, IsRightCost}

-- a cost certificate of a rectangle inside a case's root bounds what every scheduler pays, at every valuation inside the rectangle
abbrev pub CertificatesBoundCosts : Type 0
CertificatesBoundCosts = (k : CaseData) (spans : Spans) (costs : List CostData) (cap : ℕ) (budget : BudgetData) (z : List ℤ) → IsCase k → IsInside k.root spans → AreCosts costs → 1 ≤ cap
    → IsCostCertificate k spans costs cap budget z → (v : Valuation) → Inside k.d spans v → IsPaidAt k.model v costs budget

-- where the least priced vector is beyond the budget at the initial state, no cost certificate exists
abbrev pub LeastPricedRefutes : Type 0
LeastPricedRefutes = (k : CaseData) (spans : Spans) (costs : List CostData) (cap : ℕ) (budget : BudgetData) (z : List ℤ) → IsLeastPriced k spans (price_over k.w costs cap) z
    → (pos budget.num *ℤ pos (2 ^ k.w)) <ℤ (number z k.model.init *ℤ pos (cap * budget.den)) → (y : List ℤ) → IsCostCertificate k spans costs cap budget y → ⊥

-- ---- there is one, and no other

-- a rectangle inside the root has a least priced vector, whatever the prices are, or no priced vector at all
abbrev pub LeastPricedOrNone : Type 0
LeastPricedOrNone = (k : CaseData) (spans : Spans) (prices : ℕ → ℤ) → IsCase k → IsInside k.root spans → ((z : List ℤ) × IsLeastPriced k spans prices z) ⊎ ((y : List ℤ) → IsPriced k spans prices y → ⊥)

-- a case has a right tree for costs, a cap and a budget
abbrev pub CostTreesExist : Type 0
CostTreesExist = (k : CaseData) (a : AskedCost) → IsCase k → (tree : Halved (List ℤ)) × IsRightCost k a k.root 0 tree

-- a rectangle is decided by at most one vector
abbrev pub LeastCostsAreOne : Type 0
LeastCostsAreOne = (k : CaseData) (a : AskedCost) (spans : Spans) (y z : List ℤ) → DecidesCost k a spans y → DecidesCost k a spans z → y ≡ z

-- a case has at most one right tree for costs, a cap and a budget
abbrev pub CostTreesAreOne : Type 0
CostTreesAreOne = (k : CaseData) (a : AskedCost) (tree other : Halved (List ℤ)) → IsRightCost k a k.root 0 tree → IsRightCost k a k.root 0 other → tree ≡ other
