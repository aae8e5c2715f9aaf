-- What `cost` writes of a case: the text of its right tree for costs, a cap and a budget, and what the leaves of that tree say of what is paid before the goal.
use Rattle.std.specs.Prelude.{ℕ, List, [], ◌∷◌, ◌++◌, map, codes, ℤ, Some, None}
use Rattle.std.specs.Fmt.{decimal}
use Rattle.std.specs.List.{concat}
use Rattle.std.specs.declared.option.Option.{Option}
use Prim.Native.Char.{code}
use Rattle.lift_poly.specs.Polynomial.{Valuation}
use Rattle.lift_grid.specs.Rectangle.{Spans, Inside}
use Rattle.corner_lift.specs.Case.{CaseData}
use Rattle.lift_walk.specs.Halved.{Halved}
use Rattle.lift_costs.specs.Costs.{CostData}
use Rattle.lift_cost.specs.Paid.{IsPaidAt}
use Rattle.lift_cost.specs.Decided.{AskedCost, IsOpenCost, IsRightCost}
use Rattle.lift_cost.specs.Text.{tree_text}
use Rattle.cert_text.specs.Report.{line, number_words}
use Rattle.plift_words.specs.declared.query.CostLimits.{CostLimits}
use Rattle.plift_top.specs.Asked.{AskedModel}
use Rattle.plift_top.specs.Heads.{head_of}
use Rattle.plift_top.specs.Parts.{Part}
use Rattle.plift_top.specs.Reported.{CaseQuestion, halved_question}

-- what is asked by a cap and a budget of a model that was read with costs
abbrev pub asked_cost : CostLimits → AskedModel → AskedCost
asked_cost limits a = record { costs = a.costs; cap = limits.cap; budget = record { num = limits.budget.num; den = limits.budget.den } }

-- ---- the text

-- the first line: the format, and its version
abbrev pub cost_line : List ℕ
cost_line = line (codes "plift-cost" ∷ codes "1" ∷ [])

-- a fraction: one number over another
abbrev pub fraction_word : ℕ → ℕ → List ℕ
fraction_word num den = decimal num ++ code "/" ∷ decimal den

-- a cost in lowest terms
abbrev pub cost_word : CostData → List ℕ
cost_word cost = fraction_word cost.num cost.den

-- what a visit of each state costs
abbrev pub cost_words : List CostData → List (List ℕ)
cost_words costs = codes "cost" ∷ map cost_word costs

-- the cap, and the budget in lowest terms
unfoldable pub limit_lines : AskedCost → List (List ℕ)
limit_lines q = line (number_words (codes "cap") q.cap) ∷ line (codes "budget" ∷ fraction_word q.budget.num q.budget.den ∷ []) ∷ []

-- what is asked
abbrev pub cost_lines : AskedCost → List (List ℕ)
cost_lines q = line (cost_words q.costs) ∷ limit_lines q

-- the head: the version, the model, and what is asked of it
abbrev pub cost_head : CaseData → AskedCost → List (List ℕ)
cost_head k q = head_of cost_line k None (cost_lines q)

-- the bytes of a text: those of its head, and of its tree's nodes in preorder
abbrev pub cost_text : CaseData → AskedCost → Halved (List ℤ) → List ℕ
cost_text k q tree = concat (cost_head k q) ++ tree_text tree

-- ---- what its leaves say

-- What a leaf says of its rectangle: where it accepts, that at every valuation inside it every scheduler, also one that tosses, is expected to pay at most the budget before the goal, within any number of steps; an unknown one, that there is no cost certificate.
abbrev pub SaysOfCost : CaseData → AskedCost → Spans → Option (List ℤ) → Type 0
SaysOfCost k q spans (Some z) = (v : Valuation) → Inside k.d spans v → IsPaidAt k.model v q.costs q.budget
SaysOfCost k q spans None = IsOpenCost k q spans

-- what a leaf says holds
abbrev pub CostPartHolds : CaseData → AskedCost → Part (List ℤ) → Type 0
CostPartHolds k q part = SaysOfCost k q part.spans part.leaf

-- ---- what is asked

-- asked for a budget
abbrev pub cost_question : CaseData → AskedCost → CaseQuestion
cost_question k q = halved_question k (λ tree. IsRightCost k q k.root 0 tree) (λ part. CostPartHolds k q part) (λ tree. cost_text k q tree)
