use Rattle.audit_cert.proofs.Saying.{chained}
use Rattle.audit_cert.proofs.EachKind.{form_upper_one, upper_one_kind}
use Rattle.audit_cert.proofs.quick_kinds.is_upper_one.Goals as goal

pub passes-requires : goal.passes-requires
passes-requires g c = (c.requires.0, (c.requires.1.0, rw c.upper_one-claim.ensures (form_upper_one c.args.case.now c.args.op c.args.bound c.args.x.now c.args.picks.now c.requires.1.1.0 c.requires.1.1.1)))

pub returns : goal.returns
returns g c = chained (rw c.upper_one-claim.ensures at c.passes.ensures)
    (upper_one_kind c.rows_at_corners.ensures.parameters c.args.case.now g.spans c.requires.1.0.inside.within c.w.ensures.case c.args.op c.args.bound c.args.x.now c.args.picks.now c.requires.1.1.0 c.requires.1.1.1)
