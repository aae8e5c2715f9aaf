use Rattle.std.proofs.Common.{rules, ◌≡◌, ℕ, ℤ, w64, to_z, of_z, to_z-of_z, SFits, ◌∙◌, arith}
use Rattle.corner_lift.specs.Pairs.{pair_sum}
use Rattle.corner_lift.proofs.Cases.{greatest_more}
use Rattle.corner_lift.proofs.PairSums.{greatest_of_one}
use Rattle.corner_lift.proofs.pairs.greatest_in_lane.Goals as goal

pub loop-corner-init : goal.loop-corner-init
loop-corner-init c =
    let fits : SFits w64 c.lane_pair-greatest.result = search rules in
    let f : ℕ → ℤ = λ n. pair_sum c.args.block.now n c.args.first c.args.second in
    let same = rw (to_z-of_z c.ranges.first, to_z-of_z c.ranges.second) at c.lane_pair-greatest.ensures in
    rw (to_z-of_z fits, to_z-of_z c.ranges.first, to_z-of_z c.ranges.second) (omega (arith, c.requires.some), greatest_of_one f c.lane_pair-greatest.result same)

pub loop-corner-preserved : goal.loop-corner-preserved
loop-corner-preserved c =
    let fits : SFits w64 c.greater_in_lane-greatest.result = search rules in
    let sum_fits : SFits w64 c.lane_pair-sum.result = search rules in
    let f : ℕ → ℤ = λ n. pair_sum c.args.block.now n c.args.first c.args.second in
    let n = c.loop-corner.corner in
    let z = to_z w64 c.loop-corner.greatest-bits in
    let same = rw (to_z-of_z c.ranges.first, to_z-of_z c.ranges.second) at c.lane_pair-sum.ensures in
    let value : to_z w64 (of_z w64 c.lane_pair-sum.result) ≡ f n = to_z-of_z sum_fits ∙ same in
    let before = rw (to_z-of_z c.ranges.first, to_z-of_z c.ranges.second) at c.loop-corner.invariant.1 in
    let left = c.greater_in_lane-greatest.ensures.left in
    let right = rw value at c.greater_in_lane-greatest.ensures.right in
    let one = rw value at c.greater_in_lane-greatest.ensures.one in
    rw (to_z-of_z fits, to_z-of_z c.ranges.first, to_z-of_z c.ranges.second) (omega (arith, c.loop-corner-test.true), greatest_more f n z c.greater_in_lane-greatest.result before left right one)

pub returns : goal.returns
returns c =
    let before = rw (to_z-of_z c.ranges.first, to_z-of_z c.ranges.second) at c.loop-corner.invariant.1 in
    record {
      most = λ n has. before.most n (omega (arith, has, c.loop-corner.invariant.0, c.loop-corner-test.false));
      attained = (before.attained.0, (omega (arith, before.attained.1.0, c.loop-corner.invariant.0), before.attained.1.1));
    }
