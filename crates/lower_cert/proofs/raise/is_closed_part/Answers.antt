use Rattle.std.proofs.Common.{refl, arith}
use Rattle.lower_cert.proofs.Beginning.{closed_more}
use Rattle.lower_cert.proofs.raise.is_closed_part.Goals as goal

pub loop-position-preserved : goal.loop-position-preserved
loop-position-preserved g c = closed_more c.args.rows.now.case c.args.rows.now.links g.spans c.args.lane.now c.args.part.low c.loop-position.position c.loop-position.invariant (c.if-not-is_closed_position.ensures refl)

pub returns : goal.returns
returns g c = λ e at from to. c.loop-position.invariant at from (omega (arith, to, c.loop-position-test.false))
