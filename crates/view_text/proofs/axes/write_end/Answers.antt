use Rattle.std.proofs.Common.{rules, SFits, w64, to_z-of_z}
use Rattle.view_text.proofs.axes.write_end.Goals as goal

pub returns : goal.returns
returns g c =
    let fits : SFits w64 c.args.end = search rules in
    let d : SFits w64 c.grid-d.result.d = search rules in
    rw c.grid-d.ensures.d at (simp to_z-of_z at (rw c.unsigned_abs.ensures.value at c.write_fraction.ensures))
