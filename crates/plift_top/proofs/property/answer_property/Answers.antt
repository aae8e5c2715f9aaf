use Rattle.plift_words.specs.declared.query.Query.TheVariants as query
use Rattle.plift_top.proofs.PropertyTexts.{tells_property}
use Rattle.plift_top.proofs.Telling.{answers}
use Rattle.plift_top.proofs.property.answer_property.Goals as goal

pub returns : goal.returns
returns g c a is =
    let q = c.args.asked.now in
    let until = c.until_is_bounded.ensures in
    answers g.K.Sink.taken g.K.Sink.faults _ _ _ (query.Property q.bound q.op q.from) a (λ Told h. h)
    (tells_property until.lower_all until.upper_one until.upper_all until.lower_one c.until_is_reach.ensures.same c.lower_precisions_are_cases.ensures a q.case.now is c.requires.case c.rectangles_at_depths.ensures.root c.rectangles_at_depths.ensures.halves c.trees_tile.ensures.leaves c.live_parameters_have_spans.ensures q.from c.requires.from q.op q.bound)
    _ _ c.answer.result c.answer.ensures
