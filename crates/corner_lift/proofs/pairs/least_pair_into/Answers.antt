use Rattle.std.proofs.Common.{rules, pos, slice_index_or, to_z-of_z, SFits}
use mir.Syntax.{w128}
use Rattle.corner_lift.specs.Pairs.{pair_whole}
use Rattle.corner_lift.proofs.PairSums as pairs
use Rattle.corner_lift.proofs.pairs.least_pair_into.Goals as goal

pub overflow_add-whole : goal.overflow_add-whole
overflow_add-whole c =
    let w0 : SFits w128 (slice_index_or c.args.block.now 0 (pos 0)) = search rules in
    let w1 : SFits w128 (slice_index_or c.args.block.now 1 (pos 0)) = search rules in
    rw (to_z-of_z w0, to_z-of_z w1) (pairs.small_fits (pair_whole c.args.block.now) c.requires.room)

pub least_counted-sum-requires-clause-room : goal.least_counted-sum-requires-clause-room
least_counted-sum-requires-clause-room c =
    let w0 : SFits w128 (slice_index_or c.args.block.now 0 (pos 0)) = search rules in
    let w1 : SFits w128 (slice_index_or c.args.block.now 1 (pos 0)) = search rules in
    rw (to_z-of_z w0, to_z-of_z w1, to_z-of_z (pairs.small_fits (pair_whole c.args.block.now) c.requires.room)) c.requires.room

pub least_counted-sum-requires-clause-corners : goal.least_counted-sum-requires-clause-corners
least_counted-sum-requires-clause-corners c =
    let w0 : SFits w128 (slice_index_or c.args.block.now 0 (pos 0)) = search rules in
    let w1 : SFits w128 (slice_index_or c.args.block.now 1 (pos 0)) = search rules in
    rw (to_z-of_z w0, to_z-of_z w1, to_z-of_z (pairs.small_fits (pair_whole c.args.block.now) c.requires.room)) c.requires.corners

pub returns-clause-whole : goal.returns-clause-whole
returns-clause-whole c =
    let w0 : SFits w128 (slice_index_or c.args.block.now 0 (pos 0)) = search rules in
    let w1 : SFits w128 (slice_index_or c.args.block.now 1 (pos 0)) = search rules in
    rw (to_z-of_z w0, to_z-of_z w1) (to_z-of_z (pairs.small_fits (pair_whole c.args.block.now) c.requires.room))
