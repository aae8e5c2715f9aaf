use Rattle.std.proofs.Common.{◌+◌, ◌*◌, pos, w64, get_or, rules, sym, SFits, to_z-of_z}
use Rattle.view_map.proofs.Rows.{pair_at, none_at}
use Rattle.view_map.proofs.part.span_at.Goals as goal

pub returns-then-low-sides : goal.returns-then-low-sides
returns-then-low-sides c =
    let high : SFits w64 (get_or c.args.sides.now (2 * c.args.parameter + 1) (pos 0)) = search rules in
    let low : SFits w64 (get_or c.args.sides.now (2 * c.args.parameter) (pos 0)) = search rules in
    simp to_z-of_z (sym (pair_at c.args.sides.now c.args.parameter c.if-low-sides.true))

pub returns-else-low-sides : goal.returns-else-low-sides
returns-else-low-sides c = sym (none_at c.args.sides.now c.args.parameter c.if-low-sides.false)
