-- What decides a rectangle for a budget: the leaves of the right tree.
use Rattle.std.specs.Prelude.{◌≡◌, ℕ, ◌^◌, ◌<◌, ◌≤◌, List, ℤ, length}
use Rattle.lift_grid.specs.Rectangle.{Spans}
use Rattle.lift_model.specs.Links.{AreLinks}
use Rattle.corner_lift.specs.Case.{CaseData, number}
use Rattle.lift_walk.specs.Halved.{Halved, IsRightBy}
use Rattle.lift_costs.specs.Costs.{CostData}
use Rattle.rounded_iter.specs.Priced.{IsLeastPriced}
use Rattle.lift_cost.specs.Certificate.{BudgetData, IsAffordable, IsCostCertificate, price_over}
use Rattle.lift_cost.specs.declared.question.CostQuestion.{CostQuestion}

-- what is asked: what a visit of each state costs, the cap, and the budget
pub record AskedCost : Type 0 where
  pub costs : List CostData
  pub cap : ℕ
  pub budget : BudgetData

-- the least priced vector decides the rectangle, where its number of the initial state is within the budget
abbrev pub DecidesCost : CaseData → AskedCost → Spans → List ℤ → Type 0
DecidesCost k a spans z = IsLeastPriced k spans (price_over k.w a.costs a.cap) z × IsAffordable a.budget a.cap k.w (number z k.model.init)

-- there is no cost certificate
abbrev pub IsOpenCost : CaseData → AskedCost → Spans → Type 0
IsOpenCost k a spans = (z : List ℤ) → IsCostCertificate k spans a.costs a.cap a.budget z → ⊥

-- the right tree over a rectangle at a depth
abbrev pub IsRightCost : CaseData → AskedCost → Spans → ℕ → Halved (List ℤ) → Type 0
IsRightCost k a spans depth tree = IsRightBy (DecidesCost k a) (IsOpenCost k a) k spans depth tree

-- what a question asks
abbrev pub asked : CostQuestion → AskedCost
asked q = record { costs = q.costs.now; cap = q.cap; budget = record { num = q.budget.num; den = q.budget.den } }

-- a question that may be asked: the links are those of the case's model, each state has a cost, and the cap is some
pub record CanAskCost (q : CostQuestion) : Type 0 where
  pub links : AreLinks q.case.now.model q.links.now
  pub costs : length q.costs.now ≡ length q.case.now.model.states
  pub cap : 1 ≤ q.cap
