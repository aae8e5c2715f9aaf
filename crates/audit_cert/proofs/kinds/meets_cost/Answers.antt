use Rattle.lift_grid.specs.Rectangle.{spans_of}
use Rattle.audit_cert.proofs.Saying.{chained}
use Rattle.audit_cert.proofs.EachKind.{form_cost, cost_kind}
use Rattle.audit_cert.proofs.kinds.meets_cost.Goals as goal

pub meets-requires-clause-form : goal.meets-requires-clause-form
meets-requires-clause-form c = rw c.cost-claim.ensures (form_cost c.args.case.now c.args.rewards.costs.now c.args.rewards.cap (record { num = c.args.budget.num; den = c.args.budget.den }) c.args.z.now c.requires.numbers)

pub returns-clause-ok : goal.returns-clause-ok
returns-clause-ok c = chained (rw c.cost-claim.ensures at c.meets.ensures.ok)
    (cost_kind c.rows_at_corners.ensures.parameters c.args.case.now (spans_of c.args.sides.now) c.requires.sides.within c.w.ensures.case c.args.rewards.costs.now c.args.rewards.cap (record { num = c.args.budget.num; den = c.args.budget.den }) c.args.z.now c.requires.numbers)

pub returns-clause-miss : goal.returns-clause-miss
returns-clause-miss c = rw c.cost-claim.ensures at c.meets.ensures.miss
