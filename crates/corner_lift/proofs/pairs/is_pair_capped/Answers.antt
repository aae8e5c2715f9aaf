use Rattle.std.proofs.Common.{rules, ◌≤◌, ◌*ℤ◌, pos, slice_index_or, to_z-of_z, SFits, ap₂, ◌∙◌, arith}
use mir.Syntax.{w128}
use Rattle.corner_lift.specs.Case.{engine_limit}
use Rattle.corner_lift.specs.Dot.{lane_limit}
use Rattle.corner_lift.specs.Pairs.{pair_whole}
use Rattle.corner_lift.proofs.PairSums as pairs
use Rattle.corner_lift.proofs.pairs.is_pair_capped.Goals as goal

pub overflow_add-sum : goal.overflow_add-sum
overflow_add-sum c =
    let w0 : SFits w128 (slice_index_or c.args.block.now 0 (pos 0)) = search rules in
    let w1 : SFits w128 (slice_index_or c.args.block.now 1 (pos 0)) = search rules in
    rw (pairs.whole_code c.args.w c.args.block.now (pair_whole c.args.block.now) c.requires.pairs w0 w1) (pairs.whole_fits c.args.w c.args.block.now (pair_whole c.args.block.now) c.requires.pairs)

pub overflow_cast-sum : goal.overflow_cast-sum
overflow_cast-sum c =
    let w0 : SFits w128 (slice_index_or c.args.block.now 0 (pos 0)) = search rules in
    let w1 : SFits w128 (slice_index_or c.args.block.now 1 (pos 0)) = search rules in
    let sum = pairs.sum_code c.args.w c.args.block.now (pair_whole c.args.block.now) c.requires.pairs w0 w1 in
    rw sum (pairs.whole_in_lane c.args.w c.args.block.now (pair_whole c.args.block.now) c.requires.pairs (omega (arith, c.requires.precision)) (rw sum at (c.is_narrow.ensures c.if-is_narrow.true)))

pub overflow_mul-sum : goal.overflow_mul-sum
overflow_mul-sum c =
    let w0 : SFits w128 (slice_index_or c.args.block.now 0 (pos 0)) = search rules in
    let w1 : SFits w128 (slice_index_or c.args.block.now 1 (pos 0)) = search rules in
    let sum = pairs.sum_code c.args.w c.args.block.now (pair_whole c.args.block.now) c.requires.pairs w0 w1 in
    let le : c.args.w ≤ 63 = omega (arith, c.requires.precision) in
    let small = rw sum at (c.is_narrow.ensures c.if-is_narrow.true) in
    rw (sum, to_z-of_z (pairs.whole_in_lane c.args.w c.args.block.now (pair_whole c.args.block.now) c.requires.pairs le small), to_z-of_z c.ranges.number) (pairs.most_in_lane c.args.w c.args.block.now (pair_whole c.args.block.now) c.requires.pairs le small c.args.number c.requires.numbers.1.1)

pub are_pairs_at_most-requires : goal.are_pairs_at_most-requires
are_pairs_at_most-requires c =
    let w0 : SFits w128 (slice_index_or c.args.block.now 0 (pos 0)) = search rules in
    let w1 : SFits w128 (slice_index_or c.args.block.now 1 (pos 0)) = search rules in
    let sum = pairs.sum_code c.args.w c.args.block.now (pair_whole c.args.block.now) c.requires.pairs w0 w1 in
    let room = pairs.lane_fits c.args.w c.args.block.now (pair_whole c.args.block.now) c.requires.pairs (omega (arith, c.requires.precision)) (rw sum at (c.is_narrow.ensures c.if-is_narrow.true)) in
    rw (to_z-of_z c.ranges.first, to_z-of_z c.ranges.second) (pairs.fit_pairs c.args.w c.args.block.now (pair_whole c.args.block.now) c.requires.pairs lane_limit c.args.first c.args.second c.requires.numbers.0 c.requires.numbers.1.0 room)

pub times-requires : goal.times-requires
times-requires c =
    let w0 : SFits w128 (slice_index_or c.args.block.now 0 (pos 0)) = search rules in
    let w1 : SFits w128 (slice_index_or c.args.block.now 1 (pos 0)) = search rules in
    rw (pairs.sum_code c.args.w c.args.block.now (pair_whole c.args.block.now) c.requires.pairs w0 w1, to_z-of_z c.ranges.number) (omega (arith, pairs.most_size c.args.w c.args.block.now (pair_whole c.args.block.now) c.requires.pairs c.args.number c.requires.numbers.1.1, c.requires.pairs.room))

pub are_wide_pairs_at_most-requires : goal.are_wide_pairs_at_most-requires
are_wide_pairs_at_most-requires c =
    rw (to_z-of_z c.ranges.first, to_z-of_z c.ranges.second) (pairs.fit_pairs c.args.w c.args.block.now (pair_whole c.args.block.now) c.requires.pairs engine_limit c.args.first c.args.second c.requires.numbers.0 c.requires.numbers.1.0 c.requires.pairs.room)

pub returns-then-is_narrow : goal.returns-then-is_narrow
returns-then-is_narrow c =
    let w0 : SFits w128 (slice_index_or c.args.block.now 0 (pos 0)) = search rules in
    let w1 : SFits w128 (slice_index_or c.args.block.now 1 (pos 0)) = search rules in
    let sum = pairs.sum_code c.args.w c.args.block.now (pair_whole c.args.block.now) c.requires.pairs w0 w1 in
    let le : c.args.w ≤ 63 = omega (arith, c.requires.precision) in
    let small = rw sum at (c.is_narrow.ensures c.if-is_narrow.true) in
    let lane = pairs.whole_in_lane c.args.w c.args.block.now (pair_whole c.args.block.now) c.requires.pairs le small in
    rw (sum, to_z-of_z lane, to_z-of_z c.ranges.number, to_z-of_z (pairs.most_in_lane c.args.w c.args.block.now (pair_whole c.args.block.now) c.requires.pairs le small c.args.number c.requires.numbers.1.1), to_z-of_z c.ranges.first, to_z-of_z c.ranges.second) at c.are_pairs_at_most.ensures

pub returns-else-is_narrow : goal.returns-else-is_narrow
returns-else-is_narrow c =
    let w0 : SFits w128 (slice_index_or c.args.block.now 0 (pos 0)) = search rules in
    let w1 : SFits w128 (slice_index_or c.args.block.now 1 (pos 0)) = search rules in
    let sum = pairs.sum_code c.args.w c.args.block.now (pair_whole c.args.block.now) c.requires.pairs w0 w1 in
    let fits : SFits w128 c.times.result = search rules in
    let most = to_z-of_z fits ∙ c.times.ensures ∙ ap₂ ◌*ℤ◌ sum (to_z-of_z c.ranges.number) in
    rw (most, to_z-of_z c.ranges.first, to_z-of_z c.ranges.second) at c.are_wide_pairs_at_most.ensures
