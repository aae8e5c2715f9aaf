use Rattle.rounded_iter.specs.Held.{beside}
use Rattle.rounded_iter.proofs.Holding.{raised_then}
use Rattle.rounded_iter.proofs.table.Table.try_held.Goals as goal

pub returns : goal.returns
returns g c =
    let t = c.args.self.now in
    let p = c.args.component in
    let run = beside t g.run p in
    raised_then t run p.low p.high c.args.lane.now c.set_held.new.lane c.rise_held_at.new.lane c.set_held.ensures
    (raised_then t run p.low p.high c.set_held.new.lane c.raise_to.new.lane c.rise_held_at.new.lane c.raise_to.ensures c.rise_held_at.ensures)
