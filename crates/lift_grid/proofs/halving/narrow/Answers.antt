use Rattle.std.proofs.Common.{◌+◌, ◌*◌, ◌<◌, length, pos, w64, get_or, rules, arith, SFits, to_z-of_z}
use Rattle.lift_grid.proofs.Writes.{lower-set, upper-set, paired-set, pair_in_row, ends_rise}
use Rattle.lift_grid.proofs.halving.narrow.Goals as goal

pub slice_copy_out-midpoint : goal.slice_copy_out-midpoint
slice_copy_out-midpoint c = omega (arith, pair_in_row c.args.sides.now c.args.axis c.requires.some)

pub slice_copy_out-midpoint-2 : goal.slice_copy_out-midpoint-2
slice_copy_out-midpoint-2 c = pair_in_row c.args.sides.now c.args.axis c.requires.some

pub bounds-sides-low : goal.bounds-sides-low
bounds-sides-low c = pair_in_row c.args.sides.now c.args.axis c.requires.some

pub bounds-sides-low-else-lower : goal.bounds-sides-low-else-lower
bounds-sides-low-else-lower c = omega (arith, pair_in_row c.args.sides.now c.args.axis c.requires.some)

pub midpoint-middle-requires : goal.midpoint-middle-requires
midpoint-middle-requires c =
    let pair : 2 * c.args.axis + 1 < length c.args.sides.now = pair_in_row c.args.sides.now c.args.axis c.requires.some in
    let high : SFits w64 (get_or c.args.sides.now (2 * c.args.axis + 1) (pos 0)) = search rules in
    let low : SFits w64 (get_or c.args.sides.now (2 * c.args.axis) (pos 0)) = search rules in
    simp to_z-of_z (ends_rise c.args.sides.now c.args.axis c.requires)

pub returns-then-lower-clause-half : goal.returns-then-lower-clause-half
returns-then-lower-clause-half c =
    let pair : 2 * c.args.axis + 1 < length c.args.sides.now = pair_in_row c.args.sides.now c.args.axis c.requires.some in
    let high : SFits w64 (get_or c.args.sides.now (2 * c.args.axis + 1) (pos 0)) = search rules in
    let low : SFits w64 (get_or c.args.sides.now (2 * c.args.axis) (pos 0)) = search rules in
    let fits : SFits w64 c.midpoint-middle.result = search rules in
    rw (to_z-of_z fits, c.if-lower.true) (lower-set c.args.sides.now c.args.axis c.midpoint-middle.result pair (simp to_z-of_z at c.midpoint-middle.ensures))

pub returns-then-lower-clause-pairs : goal.returns-then-lower-clause-pairs
returns-then-lower-clause-pairs c paired = paired-set c.args.sides.now (2 * c.args.axis + 1) _ paired

pub returns-else-lower-clause-half : goal.returns-else-lower-clause-half
returns-else-lower-clause-half c =
    let pair : 2 * c.args.axis + 1 < length c.args.sides.now = pair_in_row c.args.sides.now c.args.axis c.requires.some in
    let high : SFits w64 (get_or c.args.sides.now (2 * c.args.axis + 1) (pos 0)) = search rules in
    let low : SFits w64 (get_or c.args.sides.now (2 * c.args.axis) (pos 0)) = search rules in
    let fits : SFits w64 c.midpoint-middle.result = search rules in
    rw (to_z-of_z fits, c.if-lower.false) (upper-set c.args.sides.now c.args.axis c.midpoint-middle.result pair (simp to_z-of_z at c.midpoint-middle.ensures))

pub returns-else-lower-clause-pairs : goal.returns-else-lower-clause-pairs
returns-else-lower-clause-pairs c paired = paired-set c.args.sides.now (2 * c.args.axis) _ paired
