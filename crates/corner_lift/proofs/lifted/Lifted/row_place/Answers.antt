use Rattle.std.proofs.Common.{arith}
use Rattle.corner_lift.proofs.lifted.Lifted.row_place.Goals as goal

pub row_place-requires : goal.row_place-requires
row_place-requires c =
    let row = rw (← c.self.view_is) at c.requires in
    let laid = c.self.invariant.links.laid in
    record { state = omega (arith, row.state, laid.states); choice = omega (arith, row.choice, laid.choices c.args.s row.state) }

pub returns : goal.returns
returns c =
    let row = rw (← c.self.view_is) at c.requires in
    rw (← c.self.view_is) (omega (arith, c.row_place.ensures.value, c.self.invariant.links.laid.numbers c.args.s row.state))
