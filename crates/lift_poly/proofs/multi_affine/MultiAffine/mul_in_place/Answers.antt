use Rattle.std.proofs.Common.{◌≡◌, bit_and, ap₂, sym, ◌∙◌}
use Rattle.lift_poly.specs.Arithmetic.{product, support}
use Rattle.lift_poly.proofs.Answers.{answered, product_apart}
use Rattle.lift_poly.proofs.multi_affine.MultiAffine.mul_in_place.Goals as goal

pub returns-clause-answer : goal.returns-clause-answer
returns-clause-answer c = λ _.
    let apart : bit_and (support c.args.self) (support c.args.other) ≡ 0 = sym (ap₂ bit_and c.support.ensures c.support-2.ensures) ∙ c.if-support-ne0.false in
    answered c.in_ok-terms.terms.items (product c.args.self c.args.other)
    (c.in_ok-terms.ensures.product ∙ ap₂ product c.self.view_is c.other.view_is) c.in_ok-terms.ensures.fits
    ∙ sym (product_apart c.args.self c.args.other apart)
