use Rattle.std.proofs.Common.{rules, ◌-ℤ◌, pos, to_z-of_z, SFits}
use mir.Syntax.{w128}
use Rattle.corner_lift.proofs.Rates.{is_enough_lem}
use Rattle.corner_lift.proofs.rate.is_enough.Goals as goal

pub returns : goal.returns
returns c =
    let weight_fits : SFits w128 c.args.weight = c.ranges.weight in
    let whole_fits : SFits w128 c.args.whole = c.ranges.whole in
    let less_fits : SFits w128 (c.args.whole -ℤ pos 1) = search rules in
    is_enough_lem c.args.weight c.args.whole c.unsigned_abs.result c.unsigned_abs-below.result c.args.e c.requires.weight c.requires.whole (simp to_z-of_z at c.unsigned_abs.ensures.value) (simp to_z-of_z at c.unsigned_abs-below.ensures.value)
