use Rattle.std.proofs.Common.{rules, SFits, w64, to_z-of_z, pos, ◌-ℤ◌, ltb-true}
use Rattle.robust_rank.proofs.Doubling.{surely_enough}
use Rattle.robust_rank.proofs.rates.is_surely_enough.Goals as goal

pub returns-then-e-lt64 : goal.returns-then-e-lt64
returns-then-e-lt64 c less =
    let weight_fits : SFits w64 c.args.weight = search rules in
    let whole_fits : SFits w64 c.args.whole = search rules in
    let below_fits : SFits w64 (c.args.whole -ℤ pos 1) = search rules in
    surely_enough c.args.weight c.args.whole c.unsigned_abs.result c.unsigned_abs-below.result c.args.e c.requires.weight c.requires.whole (rw (to_z-of_z weight_fits) at c.unsigned_abs.ensures.value) (rw (to_z-of_z whole_fits, to_z-of_z below_fits) at c.unsigned_abs-below.ensures.value) (ltb-true _ _ less)
