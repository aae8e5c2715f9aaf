use Rattle.std.proofs.Common.{◌∙◌, ◌^◌, ap, arith}
use Rattle.lift_model.specs.declared.layout.RowPlace.{RowPlace}
use Rattle.corner_lift.proofs.Cases.{parameters_in_root}
use Rattle.corner_lift.proofs.lifted.Lifted.corners.Goals as goal

pub place-requires : goal.place-requires
place-requires c =
    let row = rw (← c.self.view_is) at c.requires in
    let laid = c.self.invariant.links.laid in
    record { state = omega (arith, row.state, laid.states); choice = omega (arith, row.choice, laid.choices c.args.s row.state) }

pub returns : goal.returns
returns c =
    let row = rw (← c.self.view_is) at c.requires in
    let same = ap (λ (p : RowPlace). p.corners) c.place.ensures in
    rw (← c.self.view_is) (same ∙ (c.self.invariant.links.laid.places c.args.s c.args.a row).corners ∙ ap (λ n. 2 ^ n) (parameters_in_root c.self.inside.case.now c.args.s c.args.a c.self.invariant.case row.state row.choice))
