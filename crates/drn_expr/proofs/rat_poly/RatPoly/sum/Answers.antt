use Rattle.std.proofs.Common.{◌≡◌, unsigned_abs, FitsSigned, to_z, of_z, Err, ap, ◌∙◌, arith, rules}
use Rattle.std.specs.Int.{w128}
use Rattle.std.proofs.lemmas.Int.{to_z-of_z}
use Rattle.lift_poly.specs.Arithmetic.{scaled}
use Rattle.drn_expr.specs.RatPolys.{cause_of}
use Rattle.drn_expr.proofs.Calls.{over, given, multiple_refused, sum_refused}
use Rattle.drn_expr.proofs.rat_poly.RatPoly.sum.Goals as goal

pub returns-in_err-left : goal.returns-in_err-left
returns-in_err-left c =
    let e : c.from_residual.result ≡ Err (cause_of c.in_err-left.field-0.0) = search rules in
    let fits : FitsSigned w128 c.from.result = search rules in
    let by = to_z-of_z w128 c.from.result fits ∙ c.from.ensures in
    multiple_refused c.operations_fit.ensures.multiples c.in_err-left.field-0.0 (to_z w128 (of_z w128 c.from.result)) (over c.self.inside.poly c.self.inside.den) _ _ c.self.invariant (omega (arith, ap unsigned_abs by, c.other.invariant.den)) (λ _. c.in_err-left.ensures.answer) e

pub returns-in_err-right : goal.returns-in_err-right
returns-in_err-right c =
    let e : c.from_residual-in_err-right.result ≡ Err (cause_of c.in_err-right.field-0.0) = search rules in
    let fits : FitsSigned w128 c.from-2.result = search rules in
    let by = to_z-of_z w128 c.from-2.result fits ∙ c.from-2.ensures in
    multiple_refused c.operations_fit.ensures.multiples c.in_err-right.field-0.0 (to_z w128 (of_z w128 c.from-2.result)) (over c.other.inside.poly c.other.inside.den) _ _ c.other.invariant (omega (arith, ap unsigned_abs by, c.self.invariant.den)) (λ _. c.in_err-right.ensures.answer) e

pub returns-in_err-poly : goal.returns-in_err-poly
returns-in_err-poly c =
    let e : c.from_residual-in_err-poly.result ≡ Err (cause_of c.in_err-poly.field-0.0) = search rules in
    let fits : FitsSigned w128 c.from.result = search rules in
    let fits_too : FitsSigned w128 c.from-2.result = search rules in
    let left = to_z-of_z w128 c.from.result fits ∙ c.from.ensures in
    let right = to_z-of_z w128 c.from-2.result fits_too ∙ c.from-2.ensures in
    sum_refused c.operations_fit.ensures.sums c.in_err-poly.field-0.0 (over c.self.inside.poly c.self.inside.den) (over c.other.inside.poly c.other.inside.den) c.in_ok-left.left c.in_ok-right.right _ _ c.self.invariant c.other.invariant
    (given c.in_ok-left.left (scaled (to_z w128 (of_z w128 c.from.result)) c.self.inside.poly) (λ _. c.in_ok-left.ensures.answer) ∙ ap (λ z. scaled z c.self.inside.poly) left)
    (given c.in_ok-right.right (scaled (to_z w128 (of_z w128 c.from-2.result)) c.other.inside.poly) (λ _. c.in_ok-right.ensures.answer) ∙ ap (λ z. scaled z c.other.inside.poly) right)
    c.in_err-poly.ensures.answer e
