use Rattle.std.proofs.Common.{◌≡◌, pos, Err, sym, ap, ap₂, ◌∙◌, subst, rules}
use Rattle.lift_poly.specs.Arithmetic.{sum}
use Rattle.lift_poly.specs.MultiAffine.{IsMultiAffine, narrow}
use Rattle.lift_poly.proofs.Answers.{answered, narrow_wide}
use Rattle.lift_poly.proofs.Insertion.{adding_more, added_all, added_wide}
use Rattle.lift_poly.proofs.multi_affine.MultiAffine.add_few.Goals as goal

pub returns-in_err-add_term-clause-answer : goal.returns-in_err-add_term-clause-answer
returns-in_err-add_term-clause-answer c = λ some.
    let right = c.deref-term-items.result.now in
    let reported : c.from_residual.result ≡ Err c.in_err-add_term.field-0.0 = search rules in
    let causes = c.in_err-add_term.ensures.causes (λ e. some (reported ∙ ap Err e)) in
    let wide = added_wide c.self.inside.terms.items right c.loop-term.terms.items c.loop-term.term-index (0, pos 0) c.loop-term-test.true
    (subst IsMultiAffine (sym c.deref-term-items.ensures.value) c.other.invariant) c.loop-term.invariant causes.1 in
    reported ∙ ap Err causes.0 ∙ sym (ap narrow (sym (ap₂ sum c.self.view_is (c.deref-term-items.ensures.value ∙ c.other.view_is))) ∙ narrow_wide (sum c.self.inside.terms.items right) wide)

pub loop-term-preserved : goal.loop-term-preserved
loop-term-preserved c =
    adding_more c.self.inside.terms.items c.deref-term-items.result.now c.loop-term.terms.items c.add_term.new.terms.items c.loop-term.term-index (0, pos 0) c.loop-term-test.true
    c.loop-term.invariant c.in_ok-add_term.ensures.fits c.in_ok-add_term.ensures.sum

pub returns-clause-answer : goal.returns-clause-answer
returns-clause-answer c = λ _.
    answered c.loop-term.terms.items (sum c.args.self c.args.other.now)
    (added_all c.self.inside.terms.items c.deref-term-items.result.now c.loop-term.terms.items c.loop-term.term-index c.loop-term-test.false c.loop-term.invariant
    ∙ ap₂ sum c.self.view_is (c.deref-term-items.ensures.value ∙ c.other.view_is))
    c.loop-term.invariant.held
