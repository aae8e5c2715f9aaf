use Rattle.std.proofs.Common.{false}
use Rattle.lower_cert.proofs.Sweeping.{lowered_both}
use Rattle.lower_cert.proofs.begin.visit_first.Goals as goal

pub loop-position-preserved : goal.loop-position-preserved
loop-position-preserved g c = lowered_both c.args.rows.now.case g.run c.args.lane.now c.loop-position.lane c.visit.new.lane false c.visit.result c.loop-position.invariant c.visit.ensures.lowered
