use Rattle.std.proofs.Common.{List, subst}
use Rattle.lift_cost.specs.Decided.{asked}
use Rattle.lift_costs.specs.Costs.{CostData}
use Rattle.plift_words.specs.declared.query.Query.TheVariants as query
use Rattle.plift_top.specs.Cost.{cost_question}
use Rattle.plift_top.proofs.CostTexts.{tells_cost}
use Rattle.plift_top.proofs.Telling.{answers}
use Rattle.plift_top.proofs.cost.answer_cost.Goals as goal

pub returns : goal.returns
returns g c a is paid =
    let q = c.args.question.now in
    answers g.K.Sink.taken g.K.Sink.faults _ _ _ (query.Cost (record { cap = q.cap; budget = q.budget })) a
    (λ Told h. subst (λ (costs : List CostData). Told q.case.now (cost_question q.case.now (record (asked q) { costs = costs }))) paid h)
    (tells_cost c.cost_certificates_decide.ensures.bounds c.rectangles_at_depths.ensures.root c.rectangles_at_depths.ensures.halves c.trees_tile.ensures.leaves c.live_parameters_have_spans.ensures q.case.now (asked q) c.requires.case c.are_costs.ensures c.requires.can.cap)
    _ _ c.answer.result c.answer.ensures
