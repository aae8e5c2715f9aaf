use Rattle.plift_words.specs.declared.query.Query.TheVariants as query
use Rattle.plift_top.proofs.BoundedTexts.{tells_within}
use Rattle.plift_top.proofs.Telling.{answers}
use Rattle.plift_top.proofs.bounded.answer_within.Goals as goal

pub returns : goal.returns
returns g c a =
    let q = c.args.asked.now in
    answers g.K.Sink.taken g.K.Sink.faults _ _ _ (query.Within q.bound q.steps) a (λ Told h. h)
    (tells_within c.certificates_by_steps_decide.ensures.accepting c.certificates_by_steps_decide.ensures.rejecting c.rectangles_at_depths.ensures.root c.rectangles_at_depths.ensures.halves c.trees_tile.ensures.leaves c.live_parameters_have_spans.ensures q.case.now q.bound q.steps c.requires.case)
    _ _ c.answer.result c.answer.ensures
