use Rattle.std.proofs.Common.{◌≡◌, ◌<◌, ◌*◌, ◌^◌, map, arith, rules}
use Rattle.lift_frac.specs.Limits.{size_limit}
use Rattle.lift_grid.specs.Region.{common_denominator}
use Rattle.lift_grid.specs.Parts.{ratios_of, region_of}
use Rattle.lift_grid.proofs.Multiples.{each-divides}
use Rattle.lift_grid.proofs.Parsed.{ratios_are}
use Rattle.lift_grid.proofs.Spans.{common-positive, not_cut, over_grid-fails, gives_err}
use Rattle.lift_grid.proofs.region.over_grid.Goals as goal

pub spans_over-requires-clause-positive : goal.spans_over-requires-clause-positive
spans_over-requires-clause-positive c = omega (arith, common-positive c.divisors_and_multiples.ensures.at_least (map ratios_of c.args.intervals.now) (ratios_are c.args.intervals.now), c.common_denominator-common.ensures)

pub spans_over-requires-clause-divides : goal.spans_over-requires-clause-divides
spans_over-requires-clause-divides c = λ k x below.
    let same : c.common_denominator-common.result ≡ common_denominator (map ratios_of c.args.intervals.now)
    = not_cut (size_limit) c.common_denominator-common.result _ c.args.depth c.common_denominator-common.ensures (search rules) in
    rw same (each-divides c.divisors_and_multiples.ensures.multiple (map ratios_of c.args.intervals.now) k x below)

pub returns-in_err-rect : goal.returns-in_err-rect
returns-in_err-rect c =
    let small : c.common_denominator-common.result * 2 ^ c.args.depth < size_limit = search rules in
    let same = not_cut (size_limit) c.common_denominator-common.result _ c.args.depth c.common_denominator-common.ensures small in
    gives_err region_of c.from_residual.result c.in_err-rect.field-0.0 _ c.from_residual.ensures.0 c.from_residual.ensures.1
    (over_grid-fails c.args.depth c.common_denominator-common.result _ _ same small c.in_err-rect.ensures)
