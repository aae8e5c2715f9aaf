use Rattle.std.proofs.Common.{◌≡◌, ◌≢◌, true, IfOk, IfErr, bit_and, ap, ◌∙◌, subst}
use Rattle.std.specs.List.{list_any}
use Rattle.std.proofs.lemmas.Nat.{and_comm}
use Rattle.lift_poly.specs.Arithmetic.{product, support}
use Rattle.lift_poly.specs.MultiAffine.{is_wide}
use Rattle.lift_poly.specs.declared.error.PolyError.TheVariants.{Wide, Memory}
use Rattle.lift_poly.proofs.Products.{product-comm}
use Rattle.lift_poly.proofs.terms.product_terms.Goals as goal

pub products_by_rows-requires-else-len-clause-apart : goal.products_by_rows-requires-else-len-clause-apart
products_by_rows-requires-else-len-clause-apart c =
    ap (λ ts. bit_and (support ts) (support c.args.left.items)) c.deref-else-len.ensures.value ∙ and_comm (support c.args.right.items) (support c.args.left.items) ∙ c.requires.apart

pub returns-else-len-clause-product : goal.returns-else-len-clause-product
returns-else-len-clause-product c =
    let same = ap (λ ts. product ts c.args.left.items) c.deref-else-len.ensures.value ∙ product-comm c.args.right.items c.args.left.items in
    subst (λ p. IfOk c.products_by_rows-else-len.result (λ v. v.items ≡ p)) same c.products_by_rows-else-len.ensures.product

pub returns-else-len-clause-causes : goal.returns-else-len-clause-causes
returns-else-len-clause-causes c =
    let same = ap (λ ts. product ts c.args.left.items) c.deref-else-len.ensures.value ∙ product-comm c.args.right.items c.args.left.items in
    subst (λ p. IfErr c.products_by_rows-else-len.result (λ e. e ≢ Memory → (e ≡ Wide) × (list_any is_wide p ≡ true))) same c.products_by_rows-else-len.ensures.causes
