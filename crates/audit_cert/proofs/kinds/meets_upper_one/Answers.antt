use Rattle.lift_grid.specs.Rectangle.{spans_of}
use Rattle.audit_cert.proofs.Saying.{chained}
use Rattle.audit_cert.proofs.EachKind.{form_upper_one, upper_one_kind}
use Rattle.audit_cert.proofs.kinds.meets_upper_one.Goals as goal

pub meets-requires-clause-form : goal.meets-requires-clause-form
meets-requires-clause-form c = rw c.upper_one-claim.ensures (form_upper_one c.args.case.now c.args.op c.args.bound c.args.x.now c.args.picks.now c.requires.numbers c.requires.picks)

pub returns-clause-ok : goal.returns-clause-ok
returns-clause-ok c = chained (rw c.upper_one-claim.ensures at c.meets.ensures.ok)
    (upper_one_kind c.rows_at_corners.ensures.parameters c.args.case.now (spans_of c.args.sides.now) c.requires.sides.within c.w.ensures.case c.args.op c.args.bound c.args.x.now c.args.picks.now c.requires.numbers c.requires.picks)

pub returns-clause-miss : goal.returns-clause-miss
returns-clause-miss c = rw c.upper_one-claim.ensures at c.meets.ensures.miss
