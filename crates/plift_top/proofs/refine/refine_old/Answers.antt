use Rattle.std.proofs.Common.{rules}
use Rattle.plift_top.proofs.RefineSteps.{can_go_on, old_stopped, old_refused, old_written}
use Rattle.plift_top.proofs.refine.refine_old.Goals as goal

pub returns-in_err-grid : goal.returns-in_err-grid
returns-in_err-grid g c = λ t old. old_stopped g.K.Sink.taken g.K.Sink.faults c.args.job.depth c.args.old.head.now t c.args.out.now _ c.from_residual.result c.from_residual.ensures.1 c.in_err-grid.ensures.answer

pub returns-in_err-admit : goal.returns-in_err-admit
returns-in_err-admit g c = λ t old.
    old_refused g.K.Sink.taken g.K.Sink.faults c.args.job.depth c.args.old.head.now t c.args.out.now _ c.in_ok-grid.ensures.answer _ c.from_residual-in_err-admit.result c.from_residual-in_err-admit.ensures.1 (rw (c.model-in_default.ensures, c.w.ensures.value) at c.in_err-admit.ensures.fault)

pub returns-in_err-case : goal.returns-in_err-case
returns-in_err-case g c = λ t old.
    old_refused g.K.Sink.taken g.K.Sink.faults c.args.job.depth c.args.old.head.now t c.args.out.now _ c.in_ok-grid.ensures.answer _ c.from_residual-in_err-case.result c.from_residual-in_err-case.ensures.1 (rw (c.model-2.ensures, c.w-2.ensures.value) at c.in_err-case.ensures.fault)

pub answer-answered-requires : goal.answer-answered-requires
answer-answered-requires g c =
    (search rules, can_go_on c.args.job.depth c.args.old.head.now _ _ c.args.old.nodes.now c.in_ok-grid.ensures.answer (rw (c.model-2.ensures, c.w-2.ensures.value) at c.in_ok-case.ensures.case) (search rules) c.requires.old)

pub returns : goal.returns
returns g c = λ t old.
    old_written c.texts_tell_one_report.ensures c.refined_reports_are_sound.ensures g.K.Sink.taken g.K.Sink.faults c.args.job.depth c.args.old.head.now _ _ c.args.old.top.now c.args.old.nodes.now t _ _ c.answer-answered.result c.in_ok-grid.ensures.answer
    (rw (c.model-2.ensures, c.w-2.ensures.value) at c.in_ok-case.ensures.case) (search rules) c.requires.top old c.answer-answered.ensures
