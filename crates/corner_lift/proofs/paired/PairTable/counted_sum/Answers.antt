use Rattle.std.proofs.Common.{rules, ◌*ℤ◌, ◌-ℤ◌, pos, w64, to_z-of_z, SFits, ap₂, subst, sym}
use Rattle.lift_poly.proofs.Ring.{zero-mul}
use Rattle.corner_lift.specs.Pairs.{IsLeastPair}
use Rattle.corner_lift.specs.Paired.{pair_block}
use Rattle.corner_lift.proofs.PairSums as pairs
use Rattle.corner_lift.proofs.paired.PairTable.counted_sum.Goals as goal

pub overflow_sub-result : goal.overflow_sub-result
overflow_sub-result c =
    let whole : SFits w64 c.args.pair.whole = search rules in
    let weight : SFits w64 c.args.pair.greatest = search rules in
    let range = pairs.part_range (pair_block c.args.self.now c.args.pair) c.args.pair.whole c.args.pair.scale c.requires.pair.scale c.requires.corners c.args.pair.greatest c.requires.pair.greatest.attained in
    rw (to_z-of_z whole, to_z-of_z weight) (pairs.rest_in_lane c.args.pair.whole c.args.pair.greatest c.requires.room range)

pub returns-in-true-true : goal.returns-in-true-true
returns-in-true-true c =
    let whole : SFits w64 c.args.pair.whole = search rules in
    rw (c.in-true-true.is-0, c.in-true-true.is-1, to_z-of_z whole) (pairs.both_count (pair_block c.args.self.now c.args.pair) (c.args.pair.whole *ℤ c.args.pair.scale) c.requires.corners)

pub returns-in-true-false : goal.returns-in-true-false
returns-in-true-false c =
    let least : SFits w64 c.args.pair.least = search rules in
    rw (c.in-true-false.is-0, c.in-true-false.is-1, to_z-of_z least) (pairs.first_counts (pair_block c.args.self.now c.args.pair) (c.args.pair.whole *ℤ c.args.pair.scale) c.requires.corners (c.args.pair.least *ℤ c.args.pair.scale) c.requires.pair.least)

pub returns-in-false-true : goal.returns-in-false-true
returns-in-false-true c =
    let whole : SFits w64 c.args.pair.whole = search rules in
    let weight : SFits w64 c.args.pair.greatest = search rules in
    let range = pairs.part_range (pair_block c.args.self.now c.args.pair) c.args.pair.whole c.args.pair.scale c.requires.pair.scale c.requires.corners c.args.pair.greatest c.requires.pair.greatest.attained in
    let fits = pairs.rest_in_lane c.args.pair.whole c.args.pair.greatest c.requires.room range in
    let same = ap₂ ◌-ℤ◌ (to_z-of_z whole) (to_z-of_z weight) in
    rw (c.in-false-true.is-0, c.in-false-true.is-1, same, to_z-of_z fits) (subst (IsLeastPair (pair_block c.args.self.now c.args.pair) (pos 0) (pos 1)) (pairs.scaled_rest c.args.pair.whole c.args.pair.greatest c.args.pair.scale)
    (pairs.second_counts (pair_block c.args.self.now c.args.pair) (c.args.pair.whole *ℤ c.args.pair.scale) c.requires.corners (c.args.pair.greatest *ℤ c.args.pair.scale) c.requires.pair.greatest))

pub returns-in-false-false : goal.returns-in-false-false
returns-in-false-false c = rw (c.in-false-false.is-0, c.in-false-false.is-1) (subst (IsLeastPair (pair_block c.args.self.now c.args.pair) (pos 0) (pos 0)) (sym (zero-mul c.args.pair.scale)) (pairs.none_counts (pair_block c.args.self.now c.args.pair) (c.args.pair.whole *ℤ c.args.pair.scale) c.requires.corners))
