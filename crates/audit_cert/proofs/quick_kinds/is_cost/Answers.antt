use Rattle.audit_cert.proofs.Saying.{chained}
use Rattle.audit_cert.proofs.EachKind.{form_cost, cost_kind}
use Rattle.audit_cert.proofs.quick_kinds.is_cost.Goals as goal

pub passes-requires : goal.passes-requires
passes-requires g c = (c.requires.0, (c.requires.1.0, rw c.cost-claim.ensures (form_cost c.args.case.now c.args.rewards.costs.now c.args.rewards.cap (record { num = c.args.budget.num; den = c.args.budget.den }) c.args.z.now c.requires.1.1)))

pub returns : goal.returns
returns g c = chained (rw c.cost-claim.ensures at c.passes.ensures)
    (cost_kind c.rows_at_corners.ensures.parameters c.args.case.now g.spans c.requires.1.0.inside.within c.w.ensures.case c.args.rewards.costs.now c.args.rewards.cap (record { num = c.args.budget.num; den = c.args.budget.den }) c.args.z.now c.requires.1.1)
