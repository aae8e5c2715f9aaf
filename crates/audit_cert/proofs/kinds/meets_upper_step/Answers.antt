use Rattle.lift_grid.specs.Rectangle.{spans_of}
use Rattle.audit_cert.proofs.Saying.{chained}
use Rattle.audit_cert.proofs.EachKind.{form_upper_step, upper_step_kind}
use Rattle.audit_cert.proofs.kinds.meets_upper_step.Goals as goal

pub meets-requires-clause-form : goal.meets-requires-clause-form
meets-requires-clause-form c = rw c.upper_step-claim.ensures (form_upper_step c.args.case.now c.args.bound c.args.x.now c.args.z.now c.requires.before c.requires.numbers)

pub returns-clause-ok : goal.returns-clause-ok
returns-clause-ok c = chained (rw c.upper_step-claim.ensures at c.meets.ensures.ok)
    (upper_step_kind c.rows_at_corners.ensures.parameters c.args.case.now (spans_of c.args.sides.now) c.requires.sides.within c.w.ensures.case c.args.bound c.args.x.now c.args.z.now c.requires.numbers)

pub returns-clause-miss : goal.returns-clause-miss
returns-clause-miss c = rw c.upper_step-claim.ensures at c.meets.ensures.miss
