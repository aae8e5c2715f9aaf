use Rattle.rounded_iter.proofs.Holding.{raised_then}
use Rattle.rounded_iter.proofs.table.Table.pass_beside.Goals as goal

pub loop-position-preserved : goal.loop-position-preserved
loop-position-preserved g c = raised_then c.args.self.now g.run c.args.component.low c.args.component.high c.args.lane.now c.loop-position.lane c.step_beside-now.new.lane c.loop-position.invariant c.step_beside-now.ensures
