use Rattle.std.proofs.Common.{◌≡◌, Err, sym, ap, subst, ◌∙◌, rules}
use Rattle.lift_poly.specs.Arithmetic as poly
use Rattle.drn_expr.specs.Laws.{is_large_at}
use Rattle.drn_expr.specs.RatPolys.{IsRatPoly, cause_of}
use Rattle.drn_expr.proofs.Calls.{over, given, memory_alone}
use Rattle.drn_expr.proofs.rat_poly.RatPoly.sum_of_few.Goals as goal

pub returns-in_err-poly : goal.returns-in_err-poly
returns-in_err-poly c =
    let e : c.from_residual.result ≡ Err (cause_of c.in_err-poly.field-0.0) = search rules in
    memory_alone c.in_err-poly.field-0.0 (poly.sum c.self.inside.poly c.other.inside.poly) _ _ c.in_err-poly.ensures.answer
    (c.operations_fit.ensures.plain_sums (over c.self.inside.poly c.self.inside.den) (over c.other.inside.poly c.other.inside.den) c.self.invariant c.other.invariant) e

pub invariant_of-result : goal.invariant_of-result
invariant_of-result c =
    let sum = given c.in_ok-poly.poly (poly.sum c.self.inside.poly c.other.inside.poly) c.in_ok-poly.ensures.answer in
    subst (λ p. IsRatPoly (over p 1)) (sym sum)
    (c.operations_fit.ensures.values (over c.self.inside.poly c.self.inside.den) (over c.other.inside.poly c.other.inside.den) c.self.invariant c.other.invariant
    (ap (λ p. is_large_at p c.other.inside.poly) (sym sum) ∙ sym c.has_large_at.ensures ∙ c.if-has_large_at.false))
