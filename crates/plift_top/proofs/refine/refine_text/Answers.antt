use Rattle.plift_top.proofs.RefineSteps.{text_stopped, text_old, text_refined, text_top}
use Rattle.plift_top.proofs.refine.refine_text.Goals as goal

pub returns-in_err-head : goal.returns-in_err-head
returns-in_err-head g c = text_stopped g.K.Sink.taken g.K.Sink.faults c.args.job.depth c.args.out.now c.args.text.now _ c.from_residual.result c.from_residual.ensures.1 c.in_err-head.ensures.answer c.in_err-head.ensures.reported

pub refine_old-written-requires-clause-old : goal.refine_old-written-requires-clause-old
refine_old-written-requires-clause-old g c = text_old c.args.text.now _ c.in_ok-head.ensures.sound _ _ _ c.in_ok-head.ensures.cut

pub refine_old-written-requires-clause-top : goal.refine_old-written-requires-clause-top
refine_old-written-requires-clause-top g c = text_top c.args.text.now _ c.in_ok-head.ensures.sound _ _ _ c.in_ok-head.ensures.cut

pub returns : goal.returns
returns g c = text_refined c.args.text.now _ c.in_ok-head.ensures.sound _ _ _ c.in_ok-head.ensures.cut g.K.Sink.taken g.K.Sink.faults c.args.job.depth _ _ _ c.refine_old-written.ensures
