use Rattle.rounded_iter.specs.Held.{beside}
use Rattle.rounded_iter.proofs.Holding.{raised_then}
use Rattle.rounded_iter.proofs.table.Table.raise_to.Goals as goal

pub loop-position-preserved : goal.loop-position-preserved
loop-position-preserved g c = raised_then c.args.self.now (beside c.args.self.now g.run c.args.component) c.args.component.low c.args.component.high c.args.lane.now c.loop-position.lane c.raise_at.new.lane c.loop-position.invariant c.raise_at.ensures
