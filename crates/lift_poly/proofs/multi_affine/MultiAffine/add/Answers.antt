use Rattle.std.proofs.Common.{ap₂, ◌∙◌}
use Rattle.lift_poly.specs.Arithmetic.{sum}
use Rattle.lift_poly.proofs.Answers.{answered}
use Rattle.lift_poly.proofs.multi_affine.MultiAffine.add.Goals as goal

pub returns-clause-answer : goal.returns-clause-answer
returns-clause-answer c = λ _.
    answered c.in_ok-terms.terms.items (sum c.args.self.now c.args.other.now)
    (c.in_ok-terms.ensures.sum ∙ ap₂ sum (c.deref.ensures.value ∙ c.self.view_is) (c.deref-2.ensures.value ∙ c.other.view_is)) c.in_ok-terms.ensures.fits
