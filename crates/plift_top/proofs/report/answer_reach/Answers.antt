use Rattle.plift_words.specs.declared.query.Query.TheVariants as query
use Rattle.plift_top.proofs.Telling.{answers, tells_reach}
use Rattle.plift_top.proofs.report.answer_reach.Goals as goal

pub returns : goal.returns
returns g c a =
    let q = c.args.asked.now in
    answers g.K.Sink.taken g.K.Sink.faults _ _ _ (query.Whole q.bound q.from) a (λ Told h. h)
    (tells_reach c.certificates_decide.ensures.accepting c.rejecting_certificates_reach.ensures.reached c.lower_precisions_are_cases.ensures c.rectangles_at_depths.ensures.root c.rectangles_at_depths.ensures.halves c.right_trees_tile.ensures q.case.now q.from q.bound c.requires.case c.requires.from)
    _ _ c.answer.result c.answer.ensures
