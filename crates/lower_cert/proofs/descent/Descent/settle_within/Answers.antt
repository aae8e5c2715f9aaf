use Rattle.std.proofs.Common.{false}
use Rattle.lower_cert.proofs.Beginning.{keeps_both}
use Rattle.lower_cert.proofs.Sweeping.{lowered_both}
use Rattle.lower_cert.proofs.descent.Descent.settle_within.Goals as goal

pub loop-preserved : goal.loop-preserved
loop-preserved g c = record {
  lowered = lowered_both c.args.self.now.rows.now.case g.run c.args.lane.now c.loop.lane c.pass.new.lane false c.pass.result c.loop.invariant.lowered c.pass.ensures.lowered;
  kept = keeps_both c.args.self.now.rows.now.case c.args.self.now.rows.now.links c.args.part.low c.args.part.high c.args.lane.now c.loop.lane c.pass.new.lane c.loop.invariant.kept c.pass.ensures.kept;
}
