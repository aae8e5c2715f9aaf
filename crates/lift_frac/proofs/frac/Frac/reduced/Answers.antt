use Rattle.std.proofs.Common.{◌/◌, arith}
use Rattle.lift_frac.proofs.Reducing.{is_reduced, signed_fits, den_positive, no_common_factor, small_above, small_below, fraction-narrow, quotient}
use Rattle.lift_frac.proofs.Products.{kept}
use Rattle.lift_frac.proofs.frac.Frac.reduced.Goals as goal

pub overflow_mul-result-2 : goal.overflow_mul-result-2
overflow_mul-result-2 c =
    signed_fits (kept c.args.num) (kept c.args.den) c.signum.result c.signum-2.result (c.unsigned_abs-above.result / c.gcd-divisor.result) c.signum.ensures.value c.signum-2.ensures.value (omega arith)

pub invariant_of-result : goal.invariant_of-result
invariant_of-result c =
    let r = is_reduced c.args.num c.args.den c.ranges.num c.ranges.den c.requires
    c.signum.ensures.value c.signum-2.ensures.value c.unsigned_abs-above.ensures.value c.unsigned_abs-below.ensures.value c.gcd-divisor.ensures.value (omega arith) (omega arith) in
    record {
      positive_den = den_positive r;
      in_lowest_terms = no_common_factor r;
      small_num = small_above r (omega arith);
      small_den = small_below r (omega arith);
    }

pub returns-clause-answer : goal.returns-clause-answer
returns-clause-answer c =
    let r = is_reduced c.args.num c.args.den c.ranges.num c.ranges.den c.requires
    c.signum.ensures.value c.signum-2.ensures.value c.unsigned_abs-above.ensures.value c.unsigned_abs-below.ensures.value c.gcd-divisor.ensures.value (omega arith) (omega arith) in
    fraction-narrow r (omega arith) (omega arith)

pub returns-clause-value : goal.returns-clause-value
returns-clause-value c =
    let r = is_reduced c.args.num c.args.den c.ranges.num c.ranges.den c.requires
    c.signum.ensures.value c.signum-2.ensures.value c.unsigned_abs-above.ensures.value c.unsigned_abs-below.ensures.value c.gcd-divisor.ensures.value (omega arith) (omega arith) in
    quotient r
