use Rattle.std.proofs.Common.{None, sym, subst, ◌∙◌}
use Rattle.corner_lift.specs.Case.{CaseData, IsCase}
use Rattle.plift_words.specs.declared.query.Query.TheVariants.{Whole}
use Rattle.plift_top.specs.Steps.{IsTestedCase, AnswersCase}
use Rattle.plift_top.proofs.Lumping.{same_case}
use Rattle.plift_top.proofs.lumped.write_quotient.Goals as goal

pub new-quotient-requires : goal.new-quotient-requires
new-quotient-requires g c =
    subst IsCase (sym (same_case c.args.case.now c.args.lumped.now c.model.result.now c.grid.result c.root.result.now c.w.result c.model.ensures c.root.ensures.value c.grid.ensures.d c.grid.ensures.depth c.w.ensures.value)) c.requires.case

pub answer_reach-requires-clause-case : goal.answer_reach-requires-clause-case
answer_reach-requires-clause-case g c =
    subst IsTestedCase (sym (c.new-quotient.ensures ∙ same_case c.args.case.now c.args.lumped.now c.model.result.now c.grid.result c.root.result.now c.w.result c.model.ensures c.root.ensures.value c.grid.ensures.d c.grid.ensures.depth c.w.ensures.value)) c.requires

pub answer_reach-requires-clause-from : goal.answer_reach-requires-clause-from
answer_reach-requires-clause-from g c v e = absurd (cc)

pub returns : goal.returns
returns g c a =
    subst (λ (k : CaseData). AnswersCase g.K.Sink.taken g.K.Sink.faults (Whole c.args.bound None) a k c.args.out.now c.answer_reach.new.out c.answer_reach.result)
    (c.new-quotient.ensures ∙ same_case c.args.case.now c.args.lumped.now c.model.result.now c.grid.result c.root.result.now c.w.result c.model.ensures c.root.ensures.value c.grid.ensures.d c.grid.ensures.depth c.w.ensures.value)
    (c.answer_reach.ensures a)
