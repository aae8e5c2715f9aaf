use Rattle.lift_grid.specs.Rectangle.{spans_of}
use Rattle.audit_cert.proofs.Saying.{chained}
use Rattle.audit_cert.proofs.EachKind.{form_lower_step, lower_step_kind}
use Rattle.audit_cert.proofs.kinds.meets_lower_step.Goals as goal

pub meets-requires-clause-form : goal.meets-requires-clause-form
meets-requires-clause-form c = rw c.lower_step-claim.ensures (form_lower_step c.args.case.now c.args.bound c.args.y.now c.args.z.now c.args.picks.now c.requires.before c.requires.numbers c.requires.picks)

pub returns-clause-ok : goal.returns-clause-ok
returns-clause-ok c = chained (rw c.lower_step-claim.ensures at c.meets.ensures.ok)
    (lower_step_kind c.rows_at_corners.ensures.parameters c.args.case.now (spans_of c.args.sides.now) c.requires.sides.within c.w.ensures.case c.args.bound c.args.y.now c.args.z.now c.args.picks.now c.requires.numbers c.requires.picks)

pub returns-clause-miss : goal.returns-clause-miss
returns-clause-miss c = rw c.lower_step-claim.ensures at c.meets.ensures.miss
