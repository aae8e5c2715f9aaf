use Rattle.std.proofs.Common.{ap, ◌∙◌}
use Rattle.corner_lift.specs.Case.{CaseData}
use Rattle.plift_words.specs.Given.{verify_data}
use Rattle.plift_top.proofs.Reading.{over_refused, over_answered}
use Rattle.plift_top.proofs.verify.write_over.Goals as goal

pub returns-in_err-admit : goal.returns-in_err-admit
returns-in_err-admit g c a is paid = over_refused g.K.Sink.taken g.K.Sink.faults (verify_data c.args.job.now) _ a is _ c.args.out.now _ c.from_residual.result c.from_residual.ensures.1 c.in_err-admit.ensures.fault

pub returns-in_err-case : goal.returns-in_err-case
returns-in_err-case g c a is paid = over_refused g.K.Sink.taken g.K.Sink.faults (verify_data c.args.job.now) _ a is _ c.args.out.now _ c.from_residual-in_err-case.result c.from_residual-in_err-case.ensures.1 c.in_err-case.ensures.fault

pub returns : goal.returns
returns g c a is paid =
    over_answered g.K.Sink.taken g.K.Sink.faults (verify_data c.args.job.now) _ a is _ c.in_ok-case.case c.args.out.now c.write_answer-written.new.out c.write_answer-written.result c.in_ok-case.ensures.case
    (c.write_answer-written.ensures a (ap (λ (k : CaseData). k.model) c.in_ok-case.ensures.case ∙ is) paid)
