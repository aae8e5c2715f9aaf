use Rattle.std.proofs.Common.{◌∙◌, ap, unsigned_abs, SFits, w64, to_z-of_z}
use Rattle.std.proofs.lemmas.List.{take_all}
use Rattle.lift_grid.specs.Rectangle.{spans_of}
use Rattle.lift_rows.proofs.Widths.{greatest_from, greatest_from-sides}
use Rattle.lift_rows.proofs.candidate.greatest_of.Goals as goal

pub returns : goal.returns
returns c =
    let d_fits : SFits w64 c.args.d = c.ranges.d in
    let d = unsigned_abs c.args.d in
    let sides = take_all c.loop-side.side-index c.args.sides.now c.loop-side-test.false ∙ c.requires in
    c.from.ensures ∙ simp to_z-of_z at c.loop-side.invariant ∙ ap (greatest_from d) sides ∙ greatest_from-sides c.args.d (spans_of c.args.sides.now)
