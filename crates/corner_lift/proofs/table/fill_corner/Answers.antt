use Rattle.std.proofs.Common.{rules, ◌*◌, ◌^◌, ◌<◌, length, to_z-of_z, SFits, w64}
use Rattle.corner_lift.specs.Case.{abs_sum, engine_limit}
use Rattle.corner_lift.specs.Ends.{greatest_end}
use Rattle.corner_lift.proofs.Summing.{entry_size, entry_room}
use Rattle.corner_lift.proofs.table.fill_corner.Goals as goal

pub weight-requires-clause-room : goal.weight-requires-clause-room
weight-requires-clause-room c =
    let room : abs_sum c.entries-entry-items.result.now * (greatest_end c.args.case.now.d c.args.ends.now ^ length c.args.ends.now * 2 ^ c.args.case.now.w) < engine_limit = rw c.entries-entry-items.ensures c.requires.room in
    let one = entry_size c.entries-entry-items.result.now c.loop-entry.entry-index c.entry-item.result c.loop-entry-test.true c.entry-item.is in
    let d_fits : SFits w64 c.grid-d.result.d = search rules in
    rw (to_z-of_z d_fits, c.grid-d.ensures.d, c.deref.ensures) (entry_room _ _ _ c.args.case.now.w one room)
