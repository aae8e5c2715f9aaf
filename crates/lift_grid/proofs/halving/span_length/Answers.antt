use Rattle.std.proofs.Common.{◌+◌, ◌*◌, ◌∙◌, pos, w64, get_or, rules, SFits, to_z-of_z}
use Rattle.lift_grid.proofs.Axis.{length_in_row}
use Rattle.lift_grid.proofs.halving.span_length.Goals as goal

pub returns : goal.returns
returns c =
    let high : SFits w64 (get_or c.args.sides.now (2 * c.args.parameter + 1) (pos 0)) = search rules in
    let low : SFits w64 (get_or c.args.sides.now (2 * c.args.parameter) (pos 0)) = search rules in
    simp to_z-of_z at c.abs_diff.ensures ∙ length_in_row c.args.sides.now c.args.parameter c.requires
