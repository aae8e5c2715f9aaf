use Rattle.std.proofs.Common.{◌∙◌, arith}
use Rattle.corner_lift.specs.Table.{CanRead}
use Rattle.corner_lift.proofs.RowRead.{row_read}
use Rattle.corner_lift.proofs.Reading.{row_placed}
use Rattle.corner_lift.proofs.corner_table.CornerTable.row.Goals as goal

pub place-place-requires : goal.place-place-requires
place-place-requires g c =
    let row = rw (← c.self.view_is) at c.requires.1 in
    let places = c.self.invariant.places in
    record { state = omega (arith, row.state, places.states); choice = omega (arith, row.choice, places.choices c.args.s row.state) }

pub returns-clause-row : goal.returns-clause-row
returns-clause-row g c =
    let k = c.self.inside.case.now in
    let l = c.self.inside.links.now in
    let weights = c.self.inside.weights.now in
    let can : CanRead k l g.spans weights c.args.s c.args.a = record
    { places = c.self.invariant.places; table = rw (← c.self.view_is) at c.requires.0; row = rw (← c.self.view_is) at c.requires.1 } in
    let placed = row_placed k l g.spans weights c.args.s c.args.a c.place-place.result can c.place-place.ensures in
    rw (← c.self.view_is) (row_read c.premises.ensures k l g.spans weights c.args.s c.args.a c.self.invariant.case can c.place-place.result
    c.place-place.ensures c.targets.result.now (c.targets.ensures ∙ placed.entries))
