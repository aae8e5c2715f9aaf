use Rattle.std.proofs.Common.{ap₂, ◌∙◌}
use Rattle.lift_poly.specs.Arithmetic.{sum}
use Rattle.lift_poly.proofs.Answers.{answered}
use Rattle.lift_poly.proofs.multi_affine.MultiAffine.add_in_place.Goals as goal

pub returns-then-have_same_sets-clause-answer : goal.returns-then-have_same_sets-clause-answer
returns-then-have_same_sets-clause-answer c = λ _.
    answered c.add_each.new.terms.items (sum c.args.self c.args.other.now)
    (c.in_ok-add_each.ensures.sum ∙ ap₂ sum c.self.view_is (c.deref-then-have_same_sets.ensures.value ∙ c.other.view_is)) c.in_ok-add_each.ensures.fits

pub returns-clause-answer : goal.returns-clause-answer
returns-clause-answer c = λ _.
    answered c.in_ok-terms.terms.items (sum c.args.self c.args.other.now)
    (c.in_ok-terms.ensures.sum ∙ ap₂ sum (c.deref-3.ensures.value ∙ c.self.view_is) (c.deref-4.ensures.value ∙ c.other.view_is)) c.in_ok-terms.ensures.fits
