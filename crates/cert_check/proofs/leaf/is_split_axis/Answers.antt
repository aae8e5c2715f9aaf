use Rattle.std.proofs.Common.{◌≡◌, ◌*◌, ℤ, List, length, sym, ap, ◌∙◌, arith, IsBitSet}
use Rattle.lift_grid.specs.Rectangle.{spans_of}
use Rattle.lift_model.specs.Model.{live}
use Rattle.cert_check.proofs.Placed.{length_sides}
use Rattle.cert_check.proofs.leaf.is_split_axis.Goals as goal

pub split_axis-requires : goal.split_axis-requires
split_axis-requires c i bit =
    let k = c.args.case.now in
    let sides = c.args.sides.now in
    let is_live : IsBitSet (live k.model) i = rw c.model.ensures.value at (rw c.live.ensures at bit) in
    let more = c.live_parameters_have_spans.ensures k (spans_of sides) i c.model.ensures.case (record { rectangle = c.requires.rectangle.spans; within = c.requires.within }) is_live in
    let size : 2 * length (spans_of sides) ≡ length sides = sym (length_sides (spans_of sides)) ∙ ap (λ (s : List ℤ). length s) c.requires.rectangle.paired in
    omega (arith, more, size)
