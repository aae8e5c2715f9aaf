use Rattle.std.proofs.Common.{pos, ap, ◌∙◌}
use Rattle.lift_poly.specs.Arithmetic.{support}
use Rattle.lift_poly.proofs.Sets.{support_more, support_all}
use Rattle.lift_poly.proofs.multi_affine.MultiAffine.support.Goals as goal

pub loop-term-preserved : goal.loop-term-preserved
loop-term-preserved c = support_more c.loop-term.set c.loop-term.term-index c.deref-term-items.result.now (0, pos 0) c.loop-term-test.true ∙ c.loop-term.invariant

pub returns : goal.returns
returns c = support_all c.loop-term.set c.loop-term.term-index c.deref-term-items.result.now c.loop-term-test.false c.loop-term.invariant
    ∙ ap support (c.deref-term-items.ensures.value ∙ c.self.view_is)
