use Rattle.std.proofs.Common.{arith}
use Rattle.lower_cert.proofs.Beginning.{noted_more}
use Rattle.lower_cert.proofs.part.note.Goals as goal

pub loop-position-preserved : goal.loop-position-preserved
loop-position-preserved c = noted_more c.args.rows.now.case c.args.rows.now.links c.args.lane.now c.args.part.low c.loop-position.position c.loop-position.noted c.note_at.new.noted c.loop-position.invariant c.note_at.ensures

pub returns : goal.returns
returns c = λ at from to. c.loop-position.invariant at from (omega (arith, to, c.loop-position-test.false))
