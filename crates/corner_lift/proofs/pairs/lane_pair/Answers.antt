use Rattle.std.proofs.Common.{rules, ◌+◌, ◌*◌, pos, slice_index_or, w64, to_z, of_z, to_z-of_z, SFits, ap, ◌∙◌}
use mir.Syntax.{w128}
use Rattle.corner_lift.proofs.PairSums.{lane_code, lane_sum}
use Rattle.corner_lift.proofs.pairs.lane_pair.Goals as goal

pub overflow_add-result-2 : goal.overflow_add-result-2
overflow_add-result-2 c =
    let block = c.args.block.now in
    let n = c.args.corner in
    let w0 : SFits w128 (slice_index_or block (2 * n) (pos 0)) = search rules in
    let w1 : SFits w128 (slice_index_or block (2 * n + 1) (pos 0)) = search rules in
    rw (lane_code block n c.args.first c.args.second c.requires.fits w0 w1 c.ranges.first c.ranges.second) (lane_sum block n c.args.first c.args.second c.requires.fits)

pub returns : goal.returns
returns c =
    let block = c.args.block.now in
    let n = c.args.corner in
    let w0 : SFits w128 (slice_index_or block (2 * n) (pos 0)) = search rules in
    let w1 : SFits w128 (slice_index_or block (2 * n + 1) (pos 0)) = search rules in
    ap (λ z. to_z w64 (of_z w64 z)) (lane_code block n c.args.first c.args.second c.requires.fits w0 w1 c.ranges.first c.ranges.second) ∙ to_z-of_z (lane_sum block n c.args.first c.args.second c.requires.fits)
