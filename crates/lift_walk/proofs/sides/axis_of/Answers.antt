use Rattle.std.proofs.Common.{◌≡◌, ◌*◌, ◌<◌, length, sym, ap, ◌∙◌, arith, IsBitSet}
use Rattle.lift_grid.specs.Rectangle.{spans_of}
use Rattle.lift_model.specs.Model.{live}
use Rattle.corner_lift.specs.Case.{IsInside}
use Rattle.lift_walk.proofs.Ends.{length-sides}
use Rattle.lift_walk.proofs.sides.axis_of.Goals as goal

pub split_axis-requires : goal.split_axis-requires
split_axis-requires c i bit =
    let k = c.args.case.now in
    let sides = c.args.sides.now in
    let inside : IsInside k.root (spans_of sides) = record { rectangle = c.requires.sides.rectangle.spans; within = c.requires.sides.within } in
    let is_live : IsBitSet (live k.model) i = rw c.model.ensures.value at (rw c.live.ensures at bit) in
    let more : i < length (spans_of sides) = c.live_parameters_have_spans.ensures k (spans_of sides) i c.requires.case inside is_live in
    let size : 2 * length (spans_of sides) ≡ length sides = sym (length-sides (spans_of sides)) ∙ ap length c.requires.sides.rectangle.paired in
    omega (arith, more, size)
