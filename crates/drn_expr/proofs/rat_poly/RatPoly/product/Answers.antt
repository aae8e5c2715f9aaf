use Rattle.std.proofs.Common.{◌≡◌, Err, ap, ◌∙◌, rules}
use Rattle.drn_expr.specs.RatPolys.{cause_of}
use Rattle.drn_expr.specs.Expansion.{product}
use Rattle.drn_expr.proofs.Calls.{over, product_refused}
use Rattle.drn_expr.proofs.rat_poly.RatPoly.product.Goals as goal

pub returns-in_err-poly : goal.returns-in_err-poly
returns-in_err-poly c = λ some.
    let e : c.from_residual.result ≡ Err (cause_of c.in_err-poly.field-0.0) = search rules in
    product_refused c.operations_fit.ensures.products c.in_err-poly.field-0.0 (over c.self.inside.poly c.self.inside.den) (over c.other.inside.poly c.other.inside.den) _ c.self.invariant c.other.invariant c.in_err-poly.ensures.answer e some
    ∙ ap (λ a. product a (over c.other.inside.poly c.other.inside.den)) c.self.view_is ∙ ap (product c.args.self) c.other.view_is
