use Rattle.std.proofs.Common.{rules, to_z-of_z, SFits}
use mir.Syntax.{w128}
use Rattle.corner_lift.proofs.PairSums as pairs
use Rattle.corner_lift.proofs.pairs.wide_least.Goals as goal

pub risen-requires-clause-weight : goal.risen-requires-clause-weight
risen-requires-clause-weight c =
    let fits : SFits w128 c.greatest_first.result = search rules in
    rw (to_z-of_z fits, to_z-of_z c.ranges.whole) (pairs.first_range c.args.block.now c.args.whole c.requires.corners c.greatest_first.result c.greatest_first.ensures.attained)

pub risen-requires-2-clause-weight : goal.risen-requires-2-clause-weight
risen-requires-2-clause-weight c =
    let fits : SFits w128 c.least_first.result = search rules in
    rw (to_z-of_z fits, to_z-of_z c.ranges.whole) (pairs.first_range c.args.block.now c.args.whole c.requires.corners c.least_first.result c.least_first.ensures.attained)

pub returns-then-is_lower : goal.returns-then-is_lower
returns-then-is_lower c =
    let fits : SFits w128 c.risen.result = search rules in
    let weight : SFits w128 c.greatest_first.result = search rules in
    let sum = rw (to_z-of_z weight, to_z-of_z c.ranges.whole, to_z-of_z c.ranges.first, to_z-of_z c.ranges.second) at c.risen.ensures in
    let less = rw (to_z-of_z c.ranges.first, to_z-of_z c.ranges.second) at (c.is_lower.ensures.lower c.if-is_lower.true) in
    rw (to_z-of_z fits, sum) (pairs.least_by_greatest c.args.block.now c.args.whole c.requires.corners c.args.first c.args.second less c.greatest_first.result c.greatest_first.ensures)

pub returns : goal.returns
returns c =
    let fits : SFits w128 c.risen-2.result = search rules in
    let weight : SFits w128 c.least_first.result = search rules in
    let sum = rw (to_z-of_z weight, to_z-of_z c.ranges.whole, to_z-of_z c.ranges.first, to_z-of_z c.ranges.second) at c.risen-2.ensures in
    let more = rw (to_z-of_z c.ranges.first, to_z-of_z c.ranges.second) at (c.is_lower.ensures.other c.if-is_lower.false) in
    rw (to_z-of_z fits, sum) (pairs.least_by_least c.args.block.now c.args.whole c.requires.corners c.args.first c.args.second more c.least_first.result c.least_first.ensures)
