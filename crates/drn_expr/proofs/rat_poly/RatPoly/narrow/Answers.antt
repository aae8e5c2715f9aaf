use Rattle.std.proofs.Common.{◌≡◌, pos, to_z, unsigned_abs, ap, sym, subst, ◌∙◌, arith}
use Rattle.std.specs.Int.{w128}
use Rattle.std.proofs.lemmas.Int.{to_z_pos}
use Rattle.lift_poly.specs.Arithmetic.{quotient, times, DividesEach}
use Rattle.drn_expr.proofs.Calls.{divides_each, wide_den, wide_terms, narrow_given, rat_poly}
use Rattle.drn_expr.proofs.rat_poly.RatPoly.narrow.Goals as goal

pub returns-then-den-ge-LIMIT : goal.returns-then-den-ge-LIMIT
returns-then-den-ge-LIMIT c = λ _. wide_den c.args.den c.common_divisor-divisor.result c.args.poly c.common_divisor-divisor.ensures.value (omega (arith, c.if-den-ge-LIMIT.true))

pub divide-requires-clause-divides : goal.divide-requires-clause-divides
divide-requires-clause-divides c =
    let g = c.common_divisor-divisor.result in
    let same : to_z w128 g ≡ pos g = to_z_pos w128 g (omega (arith, c.common_divisor-divisor.ensures.small, c.requires.small)) in
    subst (λ z. DividesEach (unsigned_abs z) c.args.poly) (sym same) (divides_each c.divisors_and_multiples.ensures.greatest c.args.den g c.args.poly c.common_divisor-divisor.ensures.value)

pub returns-then-has_large : goal.returns-then-has_large
returns-then-has_large c = λ _.
    let g = c.common_divisor-divisor.result in
    let same : to_z w128 g ≡ pos g = to_z_pos w128 g (omega (arith, c.common_divisor-divisor.ensures.small, c.requires.small)) in
    wide_terms c.args.den g c.args.poly c.in_ok-poly.poly c.common_divisor-divisor.ensures.value (c.in_ok-poly.ensures.quotient ∙ ap (quotient c.args.poly) same) (sym c.has_large.ensures ∙ c.if-has_large.true)

pub invariant_of-result : goal.invariant_of-result
invariant_of-result c =
    let g = c.common_divisor-divisor.result in
    let same : to_z w128 g ≡ pos g = to_z_pos w128 g (omega (arith, c.common_divisor-divisor.ensures.small, c.requires.small)) in
    rat_poly c.divisors_and_multiples.ensures.greatest c.args.den g c.args.poly c.in_ok-poly.poly c.requires.positive c.common_divisor-divisor.ensures.positive c.common_divisor-divisor.ensures.value
    (ap (λ z. times z c.in_ok-poly.poly) (sym same) ∙ c.in_ok-poly.ensures.exact) c.in_ok-poly.ensures.fits.polynomial (omega (arith, c.if-den-ge-LIMIT.false)) (sym c.has_large.ensures ∙ c.if-has_large.false)

pub returns : goal.returns
returns c = λ _.
    let g = c.common_divisor-divisor.result in
    let same : to_z w128 g ≡ pos g = to_z_pos w128 g (omega (arith, c.common_divisor-divisor.ensures.small, c.requires.small)) in
    narrow_given c.args.den g c.args.poly c.in_ok-poly.poly c.common_divisor-divisor.ensures.value (c.in_ok-poly.ensures.quotient ∙ ap (quotient c.args.poly) same) (omega (arith, c.if-den-ge-LIMIT.false)) (sym c.has_large.ensures ∙ c.if-has_large.false)
