use Rattle.std.proofs.Common.{◌∙◌, arith}
use Rattle.corner_lift.proofs.corner_table.CornerTable.targets.Goals as goal

pub place-requires : goal.place-requires
place-requires c =
    let row = rw (← c.self.view_is) at c.requires in
    let laid = c.self.invariant.places in
    record { state = omega (arith, row.state, laid.states); choice = omega (arith, row.choice, laid.choices c.args.s row.state) }

pub targets-requires : goal.targets-requires
targets-requires c =
    let row = rw (← c.self.view_is) at c.requires in
    rw c.place.ensures (c.self.invariant.places.places c.args.s c.args.a row).room

pub returns : goal.returns
returns c =
    let row = rw (← c.self.view_is) at c.requires in
    rw (← c.self.view_is) ((rw c.place.ensures at c.targets.ensures) ∙ (c.self.invariant.places.places c.args.s c.args.a row).entries)
