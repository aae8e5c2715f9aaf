use Rattle.std.proofs.Common.{rules, ◌*ℤ◌, w64, to_z-of_z, SFits, subst}
use Rattle.corner_lift.specs.Pairs.{IsGreatestPair}
use Rattle.corner_lift.specs.Paired.{pair_block}
use Rattle.corner_lift.proofs.PairSums as pairs
use Rattle.corner_lift.proofs.paired.PairTable.greatest_sum.Goals as goal

pub lane_risen-requires-clause-weight : goal.lane_risen-requires-clause-weight
lane_risen-requires-clause-weight c =
    let whole : SFits w64 c.args.pair.whole = search rules in
    let weight : SFits w64 c.args.pair.least = search rules in
    rw (to_z-of_z whole, to_z-of_z weight) (pairs.part_range (pair_block c.args.self.now c.args.pair) c.args.pair.whole c.args.pair.scale c.requires.pair.scale c.requires.corners c.args.pair.least c.requires.pair.least.attained)

pub lane_risen-requires-2-clause-weight : goal.lane_risen-requires-2-clause-weight
lane_risen-requires-2-clause-weight c =
    let whole : SFits w64 c.args.pair.whole = search rules in
    let weight : SFits w64 c.args.pair.greatest = search rules in
    rw (to_z-of_z whole, to_z-of_z weight) (pairs.part_range (pair_block c.args.self.now c.args.pair) c.args.pair.whole c.args.pair.scale c.requires.pair.scale c.requires.corners c.args.pair.greatest c.requires.pair.greatest.attained)

pub returns-then-is_lower : goal.returns-then-is_lower
returns-then-is_lower c =
    let whole : SFits w64 c.args.pair.whole = search rules in
    let weight : SFits w64 c.args.pair.least = search rules in
    let fits : SFits w64 c.lane_risen.result = search rules in
    let sum = rw (to_z-of_z whole, to_z-of_z weight, to_z-of_z c.ranges.first, to_z-of_z c.ranges.second) at c.lane_risen.ensures in
    let less = rw (to_z-of_z c.ranges.first, to_z-of_z c.ranges.second) at (c.is_lower.ensures.lower c.if-is_lower.true) in
    rw (to_z-of_z fits, sum) (subst (IsGreatestPair (pair_block c.args.self.now c.args.pair) c.args.first c.args.second) (pairs.scaled_sum c.args.pair.whole c.args.pair.least c.args.first c.args.second c.args.pair.scale)
    (pairs.greatest_by_least (pair_block c.args.self.now c.args.pair) (c.args.pair.whole *ℤ c.args.pair.scale) c.requires.corners c.args.first c.args.second less (c.args.pair.least *ℤ c.args.pair.scale) c.requires.pair.least))

pub returns : goal.returns
returns c =
    let whole : SFits w64 c.args.pair.whole = search rules in
    let weight : SFits w64 c.args.pair.greatest = search rules in
    let fits : SFits w64 c.lane_risen-2.result = search rules in
    let sum = rw (to_z-of_z whole, to_z-of_z weight, to_z-of_z c.ranges.first, to_z-of_z c.ranges.second) at c.lane_risen-2.ensures in
    let more = rw (to_z-of_z c.ranges.first, to_z-of_z c.ranges.second) at (c.is_lower.ensures.other c.if-is_lower.false) in
    rw (to_z-of_z fits, sum) (subst (IsGreatestPair (pair_block c.args.self.now c.args.pair) c.args.first c.args.second) (pairs.scaled_sum c.args.pair.whole c.args.pair.greatest c.args.first c.args.second c.args.pair.scale)
    (pairs.greatest_by_greatest (pair_block c.args.self.now c.args.pair) (c.args.pair.whole *ℤ c.args.pair.scale) c.requires.corners c.args.first c.args.second more (c.args.pair.greatest *ℤ c.args.pair.scale) c.requires.pair.greatest))
