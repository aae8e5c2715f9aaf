use Rattle.std.proofs.Common.{◌≡◌, ◌<◌, ap, ◌∙◌, arith, rules}
use Rattle.std.specs.Prelude.{unsigned_abs}
use Rattle.std.specs.Int.{w64}
use Rattle.std.proofs.lemmas.Int.{to_z-of_z}
use Rattle.lift_frac.specs.Limits.{size_limit}
use Rattle.lift_frac.proofs.Euclid.{gcd-one}
use Rattle.lift_frac.proofs.Products.{kept-is}
use Rattle.lift_frac.proofs.frac.Frac.whole.Goals as goal

pub invariant_of-result : goal.invariant_of-result
invariant_of-result c =
    let same : c.from.result ≡ c.args.n = c.from.ensures ∙ to_z-of_z w64 c.args.n c.ranges.n in
    let small : unsigned_abs c.from.result < size_limit = omega (arith, ap unsigned_abs same) in
    let exact = kept-is c.from.result (omega arith) in
    record {
      positive_den = search rules;
      in_lowest_terms = gcd-one _;
      small_num = omega (arith, ap unsigned_abs exact);
      small_den = omega arith;
    }
