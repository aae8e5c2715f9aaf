use Rattle.std.proofs.Common.{◌<◌, ◌+◌, ◌*◌, ◌^◌, ◌%◌, ◌/◌, ◌∙◌, ℕ, pos, arith, rules, get_or, FitsSigned}
use Rattle.std.specs.Prelude.{count_ones}
use Rattle.std.specs.Int.{w64}
use Rattle.std.proofs.lemmas.Nat.{pow_pos}
use Rattle.std.proofs.lemmas.Int.{to_z-of_z}
use Rattle.lift_grid.proofs.Sides.{below_16, power_fits, end_in_row}
use Rattle.lift_grid.proofs.corner.corner_side.Goals as goal

pub overflow_cast-place : goal.overflow_cast-place
overflow_cast-place c = omega (arith, below_16 c.args.support c.args.parameter c.ranges.support.fits c.requires.member)

pub overflow_shl-place : goal.overflow_shl-place
overflow_shl-place c = below_16 c.args.support c.args.parameter c.ranges.support.fits c.requires.member

pub nonzero_rem-place : goal.nonzero_rem-place
nonzero_rem-place c =
    rw (power_fits c.args.parameter (below_16 c.args.support c.args.parameter c.ranges.support.fits c.requires.member)) (pow_pos c.args.parameter)

pub overflow_mul-result : goal.overflow_mul-result
overflow_mul-result c = omega (arith, below_16 c.args.support c.args.parameter c.ranges.support.fits c.requires.member)

pub overflow_add-result : goal.overflow_add-result
overflow_add-result c = omega (arith, below_16 c.args.support c.args.parameter c.ranges.support.fits c.requires.member)

pub returns : goal.returns
returns c =
    let below = below_16 c.args.support c.args.parameter c.ranges.support.fits c.requires.member in
    let place : ℕ = 2 * c.args.parameter + c.args.corner / 2 ^ count_ones (c.args.support % (1 * 2 ^ c.args.parameter % 65536)) % 2 in
    let small : c.args.corner / 2 ^ count_ones (c.args.support % 2 ^ c.args.parameter) % 2 < 2 = omega arith in
    let fits : FitsSigned w64 (get_or c.args.sides.now place (pos 0)) = search rules in
    to_z-of_z w64 _ fits
    ∙ rw (power_fits c.args.parameter below) (end_in_row c.args.sides.now c.args.parameter _ small (c.requires.pairs c.args.parameter c.requires.member))
