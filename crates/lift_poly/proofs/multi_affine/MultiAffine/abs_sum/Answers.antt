use Rattle.std.proofs.Common.{◌≡◌, ◌+◌, ◌^◌, ◌≤◌, ◌<◌, List, get_or, pos, All, FitsSigned, unsigned_abs, sym, ap, ◌∙◌, subst, arith, rules}
use Rattle.std.specs.Int.{w128}
use Rattle.std.proofs.lemmas.Int.{to_z-of_z, to_z_pos}
use Rattle.std.proofs.lemmas.List.{take_all}
use Rattle.std.proofs.lemmas.List.Sums.{sum_by_more_le}
use Rattle.lift_poly.specs.Limits.{summand_limit}
use Rattle.lift_poly.specs.Polynomial.{Term}
use Rattle.lift_poly.specs.Arithmetic.{abs_sum}
use Rattle.lift_poly.specs.MultiAffine.{IsMultiAffine}
use Rattle.lift_poly.proofs.Lookup.{abs_sum_le}
use Rattle.lift_poly.proofs.multi_affine.MultiAffine.abs_sum.Goals as goal

-- the whole sum is small
whole : (terms items : List Term) → items ≡ terms → IsMultiAffine items → All (λ term. unsigned_abs term.1 < summand_limit) terms → abs_sum items ≤ 2 ^ 116
whole terms items same h sizes = abs_sum_le items h (subst (All (λ t. unsigned_abs t.1 < summand_limit)) (sym same) sizes)

pub overflow_add-sum : goal.overflow_add-sum
overflow_add-sum c =
    let items = c.deref-term-items.result.now in
    let term = get_or items c.loop-term.term-index (0, pos 0) in
    let fits : FitsSigned w128 term.1 = search rules in
    let size = c.unsigned_abs-sum.ensures.value ∙ ap unsigned_abs (to_z-of_z w128 term.1 fits) in
    let value = c.deref-term-items.ensures.value in
    let small = whole c.args.self.now items (value ∙ c.self.view_is) (subst IsMultiAffine (sym value) c.self.invariant) c.requires in
    let more = sum_by_more_le (λ (t : Term). unsigned_abs t.1) items c.loop-term.term-index (0, pos 0) c.loop-term-test.true in
    let bound : c.loop-term.sum + c.unsigned_abs-sum.result ≤ 2 ^ 116 = omega (arith, c.loop-term.invariant, size, small, more) in
    search rules

pub overflow_cast-result : goal.overflow_cast-result
overflow_cast-result c =
    let items = c.deref-term-items.result.now in
    let value = c.deref-term-items.ensures.value in
    let small = whole c.args.self.now items (value ∙ c.self.view_is) (subst IsMultiAffine (sym value) c.self.invariant) c.requires in
    let all = c.loop-term.invariant ∙ ap abs_sum (take_all c.loop-term.term-index items c.loop-term-test.false) in
    let bound : c.loop-term.sum ≤ 2 ^ 116 = omega (arith, all, small) in
    search rules

pub returns : goal.returns
returns c =
    let items = c.deref-term-items.result.now in
    let value = c.deref-term-items.ensures.value in
    let small = whole c.args.self.now items (value ∙ c.self.view_is) (subst IsMultiAffine (sym value) c.self.invariant) c.requires in
    let all = c.loop-term.invariant ∙ ap abs_sum (take_all c.loop-term.term-index items c.loop-term-test.false) in
    to_z_pos w128 c.loop-term.sum (omega (arith, all, small)) ∙ ap pos (all ∙ ap abs_sum (value ∙ c.self.view_is))
