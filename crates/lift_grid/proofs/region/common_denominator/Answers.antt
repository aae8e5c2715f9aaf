use Rattle.std.proofs.Common.{◌<◌, ◌∙◌, sym, ap, min, arith}
use Rattle.std.specs.Prelude.{unsigned_abs}
use Rattle.std.proofs.lemmas.Int.{ints}
use Rattle.lift_frac.specs.Limits.{size_limit}
use Rattle.lift_grid.proofs.Multiples.{two_more, common-more}
use Rattle.lift_grid.proofs.region.common_denominator.Goals as goal

pub loop-interval-preserved : goal.loop-interval-preserved
loop-interval-preserved c =
    let item = c.interval-item.result in
    let low : 0 < unsigned_abs item.low.den = omega (arith, ints, item.low.positive_den) in
    let high : 0 < unsigned_abs item.high.den = omega (arith, ints, item.high.positive_den) in
    two_more c.divisors_and_multiples.ensures.at_least _ _ _ _ _ _ _ c.loop-interval.invariant c.common_with-d.ensures.value c.common_with-d-in-loop-interval.ensures.value low high
    ∙ ap (min size_limit) (sym (common-more c.args.intervals.now c.loop-interval.interval-index item (omega arith) c.interval-item.is))
