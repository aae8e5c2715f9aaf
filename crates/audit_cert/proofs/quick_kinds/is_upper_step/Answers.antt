use Rattle.audit_cert.proofs.Saying.{chained}
use Rattle.audit_cert.proofs.EachKind.{form_upper_step, upper_step_kind}
use Rattle.audit_cert.proofs.quick_kinds.is_upper_step.Goals as goal

pub passes-requires : goal.passes-requires
passes-requires g c = (c.requires.0, (c.requires.1.0, rw c.upper_step-claim.ensures (form_upper_step c.args.case.now c.args.bound c.args.x.now c.args.z.now c.requires.1.1.0 c.requires.1.1.1)))

pub returns : goal.returns
returns g c = chained (rw c.upper_step-claim.ensures at c.passes.ensures)
    (upper_step_kind c.rows_at_corners.ensures.parameters c.args.case.now g.spans c.requires.1.0.inside.within c.w.ensures.case c.args.bound c.args.x.now c.args.z.now c.requires.1.1.1)
