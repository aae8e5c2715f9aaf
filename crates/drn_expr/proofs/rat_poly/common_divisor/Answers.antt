use Rattle.std.proofs.Common.{sym, ap, ◌∙◌}
use Rattle.drn_expr.specs.RatPolys.{common_divisor}
use Rattle.drn_expr.proofs.Divisors.{common_is, common-one}
use Rattle.drn_expr.proofs.rat_poly.common_divisor.Goals as goal

pub returns-then-den-eq1-clause-value : goal.returns-then-den-eq1-clause-value
returns-then-den-eq1-clause-value c = sym (ap (λ d. common_divisor d c.args.poly.now) c.if-den-eq1.true ∙ common-one c.divisors_and_multiples.ensures.greatest c.args.poly.now)

pub returns-clause-value : goal.returns-clause-value
returns-clause-value c =
    common_is c.divisors_and_multiples.ensures.greatest c.divisors_and_multiples.ensures.unique c.args.den c.content.result c.gcd.result c.args.poly.now c.content.ensures c.gcd.ensures.value
