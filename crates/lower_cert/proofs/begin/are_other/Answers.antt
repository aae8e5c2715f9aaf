use Rattle.std.proofs.Common.{arith}
use Rattle.lower_cert.proofs.Beginning.{others_more}
use Rattle.lower_cert.proofs.begin.are_other.Goals as goal

pub loop-position-preserved : goal.loop-position-preserved
loop-position-preserved c =
    others_more c.args.rows.now.case c.args.rows.now.links c.args.lane.now c.args.noted.now c.args.part.low c.loop-position.position
    c.loop-position.invariant (c.is_other_at.ensures c.if-not-is_other_at.false)

pub returns : goal.returns
returns c = λ yes at from to. c.loop-position.invariant at from (omega (arith, to, c.loop-position-test.false))
