use Rattle.std.proofs.Common.{◌∙◌, to_z-of_z, arith}
use Rattle.lower_cert.proofs.Beginning.{keeps_both, filled_more}
use Rattle.lower_cert.proofs.part.fill_part.Goals as goal

pub loop-position-preserved : goal.loop-position-preserved
loop-position-preserved c = (
  keeps_both c.args.rows.now.case c.args.rows.now.links c.args.part.low c.args.part.high c.args.lane.now c.loop-position.lane c.fill_at.new.lane c.loop-position.invariant.0 c.fill_at.ensures.kept,
  filled_more c.args.rows.now.case c.args.rows.now.links c.args.part.low c.args.part.high c.loop-position.position c.loop-position.lane c.fill_at.new.lane _ c.loop-position.invariant.1 c.fill_at.ensures,
)

pub returns-clause-filled : goal.returns-clause-filled
returns-clause-filled c = λ at from to s h. c.loop-position.invariant.1 at from (omega (arith, to, c.loop-position-test.false)) s h ∙ to_z-of_z c.ranges.number
