use Rattle.std.proofs.Common.{inl, inr, refl}
use Rattle.corner_lift.specs.Certificate.{unmarked}
use Rattle.engine_tests.proofs.Forms.{form_of, marked_of}
use Rattle.engine_tests.proofs.lift.rejections.answer_of.Goals as goal

pub meets_reject-requires-clause-form : goal.meets_reject-requires-clause-form
meets_reject-requires-clause-form c =
    form_of c.args.case.now c.root.ensures.case c.requires.states c.requires.precision c.requires.first c.requires.second c.requires.third c.args.y.now c.requires.size c.requires.range 0 1 c.args.e c.requires.rate
    (inr (marked_of c.args.case.now c.root.ensures.case c.requires.states c.args.y.now c.args.e))

pub meets_reject-requires-else-is_ranked-clause-form : goal.meets_reject-requires-else-is_ranked-clause-form
meets_reject-requires-else-is_ranked-clause-form c =
    form_of c.args.case.now c.root.ensures.case c.requires.states c.requires.precision c.requires.first c.requires.second c.requires.third c.args.y.now c.requires.size c.requires.range unmarked unmarked c.args.e c.requires.rate
    (inl (refl, refl))
