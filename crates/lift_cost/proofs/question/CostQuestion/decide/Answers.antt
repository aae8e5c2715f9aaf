use Rattle.std.proofs.Common.{rules, SFits, w64, to_z-of_z}
use Rattle.lift_cost.specs.Certificate.{BudgetData}
use Rattle.lift_cost.proofs.question.CostQuestion.decide.Goals as goal

pub returns-clause-open : goal.returns-clause-open
returns-clause-open g c beyond z certificate =
    let q = c.args.self.now in
    let budget : BudgetData = record { num = q.budget.num; den = q.budget.den } in
    let fits : SFits w64 c.initial_number.result = search rules in
    let above = rw (to_z-of_z fits, c.initial_number.ensures, c.deref.ensures.value) at (c.is_affordable.ensures.beyond beyond) in
    c.cost_certificates_decide.ensures.refutes q.case.now g.spans q.costs.now q.cap budget c.find.new.lanes.values.items (c.find.ensures.least c.if-not-find.false) above z certificate
