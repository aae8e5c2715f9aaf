use Rattle.std.proofs.Common.{arith}
use Rattle.rounded_iter.proofs.Watching.{position_inside, flagged_all}
use Rattle.rounded_iter.proofs.table.Table.flag_before.Goals as goal

pub set_flag-requires : goal.set_flag-requires
set_flag-requires c =
    let r = rw (← c.self.view_is) at c.requires in
    let lt = rw c.positions_before-p-items.ensures at c.loop-p-test.true in
    rw c.positions_before-p-items.ensures (omega (arith, c.loop-p.auto.work, position_inside (record { case = c.self.inside.rows.now.case; links = c.self.inside.rows.now.links; weights = c.self.inside.rows.now.weights; rule = c.self.inside.rule; limit = c.self.inside.limit }) c.args.work.now c.args.s c.args.position r c.loop-p.p-index lt))

pub returns : goal.returns
returns c =
    let r = rw (← c.self.view_is) at c.requires in
    rw (← c.self.view_is)
    (flagged_all (record { case = c.self.inside.rows.now.case; links = c.self.inside.rows.now.links; weights = c.self.inside.rows.now.weights; rule = c.self.inside.rule; limit = c.self.inside.limit }) c.args.work.now c.args.s c.args.position r c.args.work.now c.loop-p.work c.args.frontier c.loop-p.p-index
    (rw c.positions_before-p-items.ensures at c.loop-p-test.false) (rw c.positions_before-p-items.ensures at c.loop-p.invariant))
