use Rattle.std.proofs.Common.{rules, ◌≤ℤ◌, to_z-of_z, arith}
use Rattle.corner_lift.specs.Pairs.{pair_sum}
use Rattle.corner_lift.proofs.PairSums.{one_more}
use Rattle.corner_lift.proofs.pairs.are_wide_pairs_at_most.Goals as goal

pub loop-corner-preserved : goal.loop-corner-preserved
loop-corner-preserved c =
    let block = c.args.block.now in
    let n = c.loop-corner.corner in
    let here : pair_sum block n c.args.first c.args.second ≤ℤ c.args.most = search rules in
    rw (to_z-of_z c.ranges.first, to_z-of_z c.ranges.second, to_z-of_z c.ranges.most)
    (omega (arith, c.loop-corner-test.true), one_more (λ m. pair_sum block m c.args.first c.args.second ≤ℤ c.args.most) n (rw (to_z-of_z c.ranges.first, to_z-of_z c.ranges.second, to_z-of_z c.ranges.most) at c.loop-corner.invariant.1) here)
