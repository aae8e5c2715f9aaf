use Rattle.std.proofs.Common.{ℕ, ◌+◌, take, get_or, pos, FitsSigned, unsigned_abs, ap, ◌∙◌, subst, rules}
use Rattle.std.specs.Int.{w128, IsGcd}
use Rattle.std.proofs.lemmas.Int.{to_z-of_z}
use Rattle.lift_poly.specs.Arithmetic.{IsContent}
use Rattle.lift_poly.proofs.Division.{content_more, content_one}
use Rattle.lift_poly.proofs.multi_affine.MultiAffine.content.Goals as goal

swapped : (a b g : ℕ) → IsGcd a b g → IsGcd b a g
swapped a b g h = (h.1, h.0, λ d p q. h.2 d q p)

pub loop-term-preserved : goal.loop-term-preserved
loop-term-preserved c =
    let term = get_or c.deref-term-items.result.now c.loop-term.term-index (0, pos 0) in
    let fits : FitsSigned w128 term.1 = search rules in
    let size = c.unsigned_abs.ensures.value ∙ ap unsigned_abs (to_z-of_z w128 term.1 fits) in
    content_more c.deref-term-items.result.now c.loop-term.term-index (0, pos 0) c.loop-term.divisor c.common_divisor-divisor.result c.loop-term-test.true c.loop-term.invariant
    (swapped _ _ _ (subst (λ n. IsGcd n c.loop-term.divisor c.common_divisor-divisor.result) size c.common_divisor-divisor.ensures))

pub returns-then-divisor-eq1 : goal.returns-then-divisor-eq1
returns-then-divisor-eq1 c =
    let items = c.deref-term-items.result.now in
    let term = get_or items c.loop-term.term-index (0, pos 0) in
    let fits : FitsSigned w128 term.1 = search rules in
    let size = c.unsigned_abs.ensures.value ∙ ap unsigned_abs (to_z-of_z w128 term.1 fits) in
    let more = content_more items c.loop-term.term-index (0, pos 0) c.loop-term.divisor c.common_divisor-divisor.result c.loop-term-test.true c.loop-term.invariant
    (swapped _ _ _ (subst (λ n. IsGcd n c.loop-term.divisor c.common_divisor-divisor.result) size c.common_divisor-divisor.ensures)) in
    subst (λ ts. IsContent ts 1) (c.deref-term-items.ensures.value ∙ c.self.view_is)
    (content_one items (c.loop-term.term-index + 1) (subst (IsContent (take (c.loop-term.term-index + 1) items)) c.if-divisor-eq1.true more))
