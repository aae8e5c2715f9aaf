use Rattle.std.proofs.Common.{◌∙◌, refl}
use Rattle.lift_model.proofs.Laying.{placed_new}
use Rattle.lift_model.proofs.blocks.Blocks.place.Goals as goal

pub returns : goal.returns
returns c = placed_new c.args.model.now c.args.self.now _ (record { state = c.args.s; choice = c.args.a }) c.requires.blocks c.requires.row c.in_ok-push.ensures.items c.in_ok-push-2.ensures.items
    (c.in_ok-end.ensures ∙ rw (c.corners_of.ensures, c.entries.ensures, c.row-row.ensures.value) refl)
