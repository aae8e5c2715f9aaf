use Rattle.std.proofs.Common.{get_or, FitsSigned, sym, ap, ◌∙◌, subst, rules}
use Rattle.std.specs.Int.{w128}
use Rattle.std.proofs.lemmas.Int.{to_z-of_z}
use Rattle.std.proofs.lemmas.List.Sorted.{answers_always}
use Rattle.lift_poly.specs.Polynomial.{IsPolynomial}
use Rattle.lift_poly.specs.Arithmetic.{coefficient}
use Rattle.lift_poly.proofs.Lookup.{found_at, found_nowhere}
use Rattle.lift_poly.proofs.multi_affine.MultiAffine.coefficient.Goals as goal

pub returns-in-Ok : goal.returns-in-Ok
returns-in-Ok c =
    let term = c.index.result.now in
    let fits : FitsSigned w128 term.1 = search rules in
    let polynomial = subst IsPolynomial (sym c.deref.ensures.value) c.self.invariant.polynomial in
    let by_set = c.in-Ok.ensures.position (λ term. term.0) (answers_always _ _ _ (λ f a r g called. search rules)) in
    let found = found_at c.args.set c.deref.result.now c.in-Ok.index term polynomial c.in-Ok.ensures.bound by_set in
    to_z-of_z w128 term.1 fits
    ∙ ap (λ t. t.1) (c.index.ensures ∙ ap (λ ts. get_or ts c.in-Ok.index term) (sym c.deref.ensures.value))
    ∙ found ∙ ap (coefficient c.args.set) (c.deref.ensures.value ∙ c.self.view_is)

pub returns-in-Err : goal.returns-in-Err
returns-in-Err c =
    let polynomial = subst IsPolynomial (sym c.deref.ensures.value) c.self.invariant.polynomial in
    let by_set = c.in-Err.ensures.position (λ term. term.0) (answers_always _ _ _ (λ f a r g called. search rules)) in
    found_nowhere c.args.set c.deref.result.now c.in-Err.field-0 polynomial by_set ∙ ap (coefficient c.args.set) (c.deref.ensures.value ∙ c.self.view_is)
