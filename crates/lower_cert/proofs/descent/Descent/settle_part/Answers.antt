use Rattle.std.proofs.Common.{false}
use Rattle.lower_cert.proofs.Sweeping.{lowered_both}
use Rattle.lower_cert.proofs.descent.Descent.settle_part.Goals as goal

pub loop-part-preserved : goal.loop-part-preserved
loop-part-preserved g c = lowered_both c.args.self.now.rows.now.case g.run c.args.lane.now c.loop-part.lane c.pass.new.lane false c.pass.result c.loop-part.invariant c.pass.ensures.lowered

pub returns-else-lane-init : goal.returns-else-lane-init
returns-else-lane-init g c = lowered_both c.args.self.now.rows.now.case g.run c.args.lane.now c.loop-part.lane c.pass.new.lane false c.pass.result c.loop-part.invariant c.pass.ensures.lowered
