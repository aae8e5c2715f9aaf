use Rattle.std.proofs.Common.{rules, ◌+◌, ◌*◌, ◌*ℤ◌, ◌+ℤ◌, pos, slice_index_or, to_z, of_z, to_z-of_z, SFits, ap, ap₂, ◌∙◌}
use mir.Syntax.{w128}
use Rattle.corner_lift.proofs.PairSums.{wide_sum}
use Rattle.corner_lift.proofs.pairs.wide_pair.Goals as goal

pub returns : goal.returns
returns c =
    let block = c.args.block.now in
    let n = c.args.corner in
    let w0 : SFits w128 (slice_index_or block (2 * n) (pos 0)) = search rules in
    let w1 : SFits w128 (slice_index_or block (2 * n + 1) (pos 0)) = search rules in
    let p0 : SFits w128 c.times.result = search rules in
    let p1 : SFits w128 c.times-2.result = search rules in
    let sum = ap₂ ◌+ℤ◌
    (to_z-of_z p0 ∙ c.times.ensures ∙ ap₂ ◌*ℤ◌ (to_z-of_z w0) (to_z-of_z c.ranges.first))
    (to_z-of_z p1 ∙ c.times-2.ensures ∙ ap₂ ◌*ℤ◌ (to_z-of_z w1) (to_z-of_z c.ranges.second)) in
    ap (λ z. to_z w128 (of_z w128 z)) sum ∙ to_z-of_z (wide_sum block n c.args.first c.args.second c.requires.fits)
