use Rattle.std.proofs.Common.{refl}
use Rattle.lift_grid.specs.Rectangle.{spans_of}
use Rattle.audit_cert.specs.Held.{ranking_of}
use Rattle.audit_cert.proofs.Saying.{chained}
use Rattle.audit_cert.proofs.EachKind.{form_lower_all, lower_all_kind}
use Rattle.audit_cert.proofs.kinds.meets_lower_all.Goals as goal

pub meets-requires-clause-form : goal.meets-requires-clause-form
meets-requires-clause-form c = rw c.lower_all-claim.ensures (form_lower_all c.args.case.now c.args.op c.args.bound (ranking_of c.args.y.now c.args.ranking) c.requires.numbers c.requires.ranks)

pub returns-clause-ok : goal.returns-clause-ok
returns-clause-ok c = chained (rw c.lower_all-claim.ensures at c.meets.ensures.ok)
    (lower_all_kind c.rows_at_corners.ensures.parameters c.args.case.now (spans_of c.args.sides.now) c.requires.sides.within c.w.ensures.case c.args.op c.args.bound (ranking_of c.args.y.now c.args.ranking) refl c.requires.numbers c.requires.ranks)

pub returns-clause-miss : goal.returns-clause-miss
returns-clause-miss c = rw c.lower_all-claim.ensures at c.meets.ensures.miss
