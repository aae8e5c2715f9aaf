use Rattle.std.proofs.Common.{◌≡◌, to_z, of_z, unsigned_abs, ap, sym, subst, ◌∙◌, arith}
use Rattle.std.specs.Int.{w128}
use Rattle.std.proofs.lemmas.Int.{to_z-of_z, fits_signed_from_abs}
use Rattle.lift_poly.specs.Polynomial.{constant}
use Rattle.drn_expr.specs.RatPolys.{IsRatPoly}
use Rattle.drn_expr.proofs.Calls.{over, given, number_poly, positive_size}
use Rattle.drn_expr.proofs.rat_poly.RatPoly.number.Goals as goal

pub invariant_of-result : goal.invariant_of-result
invariant_of-result c =
    let number = c.args.number in
    let same : to_z w128 (of_z w128 number.den) ≡ number.den = to_z-of_z w128 number.den (fits_signed_from_abs w128 number.den (omega (arith, number.small_den))) in
    let above : to_z w128 (of_z w128 number.num) ≡ number.num = to_z-of_z w128 number.num (fits_signed_from_abs w128 number.num (omega (arith, number.small_num))) in
    subst (λ z. IsRatPoly (over c.in_ok-poly.poly (unsigned_abs z))) (sym same)
    (number_poly c.divisors_and_multiples.ensures.unique number.num (unsigned_abs number.den) c.in_ok-poly.poly (given c.in_ok-poly.poly (constant (to_z w128 (of_z w128 number.num))) c.in_ok-poly.ensures.answer ∙ ap constant above) c.in_ok-poly.ensures.fits.polynomial
    (positive_size number.den number.positive_den) number.small_den number.small_num number.in_lowest_terms)
