use Rattle.std.proofs.Common.{rules, SFits, w64, to_z-of_z}
use Rattle.view_text.proofs.field.distance.Goals as goal

pub returns : goal.returns
returns c =
    let a : SFits w64 c.args.a = search rules in
    let b : SFits w64 c.args.b = search rules in
    simp to_z-of_z at c.abs_diff.ensures
