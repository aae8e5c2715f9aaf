use Rattle.std.proofs.Common.{rules, ◌≡◌, ℕ, ℤ, w64, to_z, of_z, to_z-of_z, SFits, ◌∙◌, arith}
use Rattle.corner_lift.specs.Pairs.{pair_sum}
use Rattle.corner_lift.proofs.Cases.{least_more}
use Rattle.corner_lift.proofs.PairSums.{least_of_one}
use Rattle.corner_lift.proofs.pairs.least_in_lane.Goals as goal

pub loop-corner-init : goal.loop-corner-init
loop-corner-init c =
    let fits : SFits w64 c.lane_pair-least.result = search rules in
    let f : ℕ → ℤ = λ n. pair_sum c.args.block.now n c.args.first c.args.second in
    let same = rw (to_z-of_z c.ranges.first, to_z-of_z c.ranges.second) at c.lane_pair-least.ensures in
    rw (to_z-of_z fits, to_z-of_z c.ranges.first, to_z-of_z c.ranges.second) (omega (arith, c.requires.some), least_of_one f c.lane_pair-least.result same)

pub loop-corner-preserved : goal.loop-corner-preserved
loop-corner-preserved c =
    let fits : SFits w64 c.lesser_in_lane-least.result = search rules in
    let sum_fits : SFits w64 c.lane_pair-sum.result = search rules in
    let f : ℕ → ℤ = λ n. pair_sum c.args.block.now n c.args.first c.args.second in
    let n = c.loop-corner.corner in
    let z = to_z w64 c.loop-corner.least-bits in
    let same = rw (to_z-of_z c.ranges.first, to_z-of_z c.ranges.second) at c.lane_pair-sum.ensures in
    let value : to_z w64 (of_z w64 c.lane_pair-sum.result) ≡ f n = to_z-of_z sum_fits ∙ same in
    let before = rw (to_z-of_z c.ranges.first, to_z-of_z c.ranges.second) at c.loop-corner.invariant.1 in
    let left = c.lesser_in_lane-least.ensures.left in
    let right = rw value at c.lesser_in_lane-least.ensures.right in
    let one = rw value at c.lesser_in_lane-least.ensures.one in
    rw (to_z-of_z fits, to_z-of_z c.ranges.first, to_z-of_z c.ranges.second) (omega (arith, c.loop-corner-test.true), least_more f n z c.lesser_in_lane-least.result before left right one)

pub returns : goal.returns
returns c =
    let before = rw (to_z-of_z c.ranges.first, to_z-of_z c.ranges.second) at c.loop-corner.invariant.1 in
    record {
      least = λ n has. before.least n (omega (arith, has, c.loop-corner.invariant.0, c.loop-corner-test.false));
      attained = (before.attained.0, (omega (arith, before.attained.1.0, c.loop-corner.invariant.0), before.attained.1.1));
    }
