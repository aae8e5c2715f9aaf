use Rattle.std.proofs.Common.{refl}
use Rattle.audit_cert.specs.Held.{ranking_of}
use Rattle.audit_cert.proofs.Saying.{chained}
use Rattle.audit_cert.proofs.EachKind.{form_lower_all, lower_all_kind}
use Rattle.audit_cert.proofs.quick_kinds.is_lower_all.Goals as goal

pub passes-requires : goal.passes-requires
passes-requires g c = (c.requires.0, (c.requires.1.0, rw c.lower_all-claim.ensures (form_lower_all c.args.case.now c.args.op c.args.bound (ranking_of c.args.y.now c.args.ranking) c.requires.1.1.0 c.requires.1.1.1)))

pub returns : goal.returns
returns g c = chained (rw c.lower_all-claim.ensures at c.passes.ensures)
    (lower_all_kind c.rows_at_corners.ensures.parameters c.args.case.now g.spans c.requires.1.0.inside.within c.w.ensures.case c.args.op c.args.bound (ranking_of c.args.y.now c.args.ranking) refl c.requires.1.1.0 c.requires.1.1.1)
