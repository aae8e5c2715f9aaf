use Rattle.audit_cert.proofs.Saying.{chained}
use Rattle.audit_cert.proofs.EachKind.{form_lower_step, lower_step_kind}
use Rattle.audit_cert.proofs.quick_kinds.is_lower_step.Goals as goal

pub passes-requires : goal.passes-requires
passes-requires g c = (c.requires.0, (c.requires.1.0, rw c.lower_step-claim.ensures (form_lower_step c.args.case.now c.args.bound c.args.y.now c.args.z.now c.args.picks.now c.requires.1.1.0 c.requires.1.1.1.0 c.requires.1.1.1.1)))

pub returns : goal.returns
returns g c = chained (rw c.lower_step-claim.ensures at c.passes.ensures)
    (lower_step_kind c.rows_at_corners.ensures.parameters c.args.case.now g.spans c.requires.1.0.inside.within c.w.ensures.case c.args.bound c.args.y.now c.args.z.now c.args.picks.now c.requires.1.1.1.0 c.requires.1.1.1.1)
