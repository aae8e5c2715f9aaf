use Rattle.std.proofs.Common.{rules, SFits, w64, to_z-of_z}
use Rattle.view_text.proofs.axes.write_value.Goals as goal

pub returns : goal.returns
returns g c =
    let num : SFits w64 c.value-num.result.0 = search rules in
    let den : SFits w64 c.value-num.result.1 = search rules in
    rw (c.value-num.ensures.num, c.value-num.ensures.den) at (simp to_z-of_z at (rw c.unsigned_abs.ensures.value at c.write_fraction.ensures))
