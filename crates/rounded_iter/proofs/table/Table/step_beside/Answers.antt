use Rattle.std.proofs.Common.{arith, ◌+◌}
use Rattle.rounded_iter.proofs.Holding.{raised_wider}
use Rattle.rounded_iter.proofs.table.Table.step_beside.Goals as goal

pub returns : goal.returns
returns g c =
    let p = c.args.component in
    let i = c.args.position in
    raised_wider c.args.self.now g.run p.low p.high i (i + 1) c.args.lane.now c.turn_beside.new.lane c.requires.1.1.0 (omega (arith, c.requires.1.1.1)) c.turn_beside.ensures
