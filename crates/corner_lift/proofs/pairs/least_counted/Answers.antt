use Rattle.std.proofs.Common.{rules, ◌-ℤ◌, to_z-of_z, SFits, ap₂}
use mir.Syntax.{w128}
use Rattle.corner_lift.proofs.PairSums as pairs
use Rattle.corner_lift.proofs.pairs.least_counted.Goals as goal

pub returns-in-false-true : goal.returns-in-false-true
returns-in-false-true c =
    let fits : SFits w128 c.greatest_first.result = search rules in
    let same = ap₂ ◌-ℤ◌ (to_z-of_z c.ranges.whole) (to_z-of_z fits) in
    let rest = pairs.rest_fits c.args.block.now c.args.whole c.requires.corners c.greatest_first.result c.greatest_first.ensures.attained c.requires.room in
    rw (c.in-false-true.is-0, c.in-false-true.is-1, same, to_z-of_z rest) (pairs.second_counts c.args.block.now c.args.whole c.requires.corners c.greatest_first.result c.greatest_first.ensures)

pub returns-in-false-false : goal.returns-in-false-false
returns-in-false-false c = rw (c.in-false-false.is-0, c.in-false-false.is-1) (pairs.none_counts c.args.block.now c.args.whole c.requires.corners)
