use Rattle.std.proofs.Common.{rules, pos, slice_index_or, to_z-of_z, SFits, arith}
use mir.Syntax.{w128}
use Rattle.corner_lift.specs.Dot.{lane_limit}
use Rattle.corner_lift.specs.Pairs.{pair_whole}
use Rattle.corner_lift.proofs.PairSums as pairs
use Rattle.corner_lift.proofs.pairs.greatest_pair.Goals as goal

pub overflow_add-whole : goal.overflow_add-whole
overflow_add-whole c =
    let w0 : SFits w128 (slice_index_or c.args.block.now 0 (pos 0)) = search rules in
    let w1 : SFits w128 (slice_index_or c.args.block.now 1 (pos 0)) = search rules in
    rw (pairs.whole_code c.args.w c.args.block.now (pair_whole c.args.block.now) c.requires.pairs w0 w1) (pairs.whole_fits c.args.w c.args.block.now (pair_whole c.args.block.now) c.requires.pairs)

pub greatest_in_lane-requires-clause-fits : goal.greatest_in_lane-requires-clause-fits
greatest_in_lane-requires-clause-fits c =
    let w0 : SFits w128 (slice_index_or c.args.block.now 0 (pos 0)) = search rules in
    let w1 : SFits w128 (slice_index_or c.args.block.now 1 (pos 0)) = search rules in
    let sum = pairs.sum_code c.args.w c.args.block.now (pair_whole c.args.block.now) c.requires.pairs w0 w1 in
    let room = pairs.lane_fits c.args.w c.args.block.now (pair_whole c.args.block.now) c.requires.pairs (omega (arith, c.requires.precision)) (rw sum at (c.is_narrow.ensures c.if-is_narrow.true)) in
    rw (to_z-of_z c.ranges.first, to_z-of_z c.ranges.second) (pairs.fit_pairs c.args.w c.args.block.now (pair_whole c.args.block.now) c.requires.pairs lane_limit c.args.first c.args.second (pairs.number_size c.args.w c.args.first c.requires.numbers.0) (pairs.number_size c.args.w c.args.second c.requires.numbers.1) room)

pub returns-then-is_narrow-clause-whole : goal.returns-then-is_narrow-clause-whole
returns-then-is_narrow-clause-whole c =
    let w0 : SFits w128 (slice_index_or c.args.block.now 0 (pos 0)) = search rules in
    let w1 : SFits w128 (slice_index_or c.args.block.now 1 (pos 0)) = search rules in
    pairs.sum_code c.args.w c.args.block.now (pair_whole c.args.block.now) c.requires.pairs w0 w1

pub wide_greatest-sum-requires-clause-corners : goal.wide_greatest-sum-requires-clause-corners
wide_greatest-sum-requires-clause-corners c =
    let w0 : SFits w128 (slice_index_or c.args.block.now 0 (pos 0)) = search rules in
    let w1 : SFits w128 (slice_index_or c.args.block.now 1 (pos 0)) = search rules in
    rw (pairs.sum_code c.args.w c.args.block.now (pair_whole c.args.block.now) c.requires.pairs w0 w1) c.requires.pairs.corners

pub wide_greatest-sum-requires-clause-first : goal.wide_greatest-sum-requires-clause-first
wide_greatest-sum-requires-clause-first c =
    let w0 : SFits w128 (slice_index_or c.args.block.now 0 (pos 0)) = search rules in
    let w1 : SFits w128 (slice_index_or c.args.block.now 1 (pos 0)) = search rules in
    rw (pairs.sum_code c.args.w c.args.block.now (pair_whole c.args.block.now) c.requires.pairs w0 w1, to_z-of_z c.ranges.first) (pairs.has_room c.args.w c.args.block.now (pair_whole c.args.block.now) c.requires.pairs c.args.first c.requires.numbers.0)

pub wide_greatest-sum-requires-clause-second : goal.wide_greatest-sum-requires-clause-second
wide_greatest-sum-requires-clause-second c =
    let w0 : SFits w128 (slice_index_or c.args.block.now 0 (pos 0)) = search rules in
    let w1 : SFits w128 (slice_index_or c.args.block.now 1 (pos 0)) = search rules in
    rw (pairs.sum_code c.args.w c.args.block.now (pair_whole c.args.block.now) c.requires.pairs w0 w1, to_z-of_z c.ranges.second) (pairs.has_room c.args.w c.args.block.now (pair_whole c.args.block.now) c.requires.pairs c.args.second c.requires.numbers.1)

pub returns-clause-whole : goal.returns-clause-whole
returns-clause-whole c =
    let w0 : SFits w128 (slice_index_or c.args.block.now 0 (pos 0)) = search rules in
    let w1 : SFits w128 (slice_index_or c.args.block.now 1 (pos 0)) = search rules in
    pairs.sum_code c.args.w c.args.block.now (pair_whole c.args.block.now) c.requires.pairs w0 w1
