use Rattle.plift_top.proofs.Checks.{stopped_check, cut_check, whole_check, stopped_limit, cut_limit}
use Rattle.plift_top.proofs.checking.check_report.Goals as goal

pub returns-in_err-leaves-clause-answer : goal.returns-in_err-leaves-clause-answer
returns-in_err-leaves-clause-answer g c = stopped_check g.S.Source.left g.S.Source.faults _ _ g.K.Sink.taken g.K.Sink.faults _ c.from_residual.result c.args.out.now c.from_residual.ensures.1 c.in_err-leaves.ensures.answer

pub returns-in_err-leaves-clause-limit : goal.returns-in_err-leaves-clause-limit
returns-in_err-leaves-clause-limit g c = stopped_limit _ c.from_residual.result _ _ c.from_residual.ensures.1 c.in_err-leaves.ensures.limit

pub returns-in_err-write_sound-clause-answer : goal.returns-in_err-write_sound-clause-answer
returns-in_err-write_sound-clause-answer g c = cut_check g.S.Source.left g.S.Source.faults _ _ g.K.Sink.taken g.K.Sink.faults c.in_ok-leaves.leaves _ c.from_residual-in_err-write_sound.result _ _ c.from_residual-in_err-write_sound.ensures.1 c.in_ok-leaves.ensures.answer c.in_err-write_sound.ensures

pub returns-in_err-write_sound-clause-limit : goal.returns-in_err-write_sound-clause-limit
returns-in_err-write_sound-clause-limit g c = cut_limit c.in_ok-leaves.leaves c.from_residual-in_err-write_sound.result _ _ c.from_residual-in_err-write_sound.ensures.1 c.in_ok-leaves.ensures.limit

pub returns-clause-answer : goal.returns-clause-answer
returns-clause-answer g c = whole_check g.S.Source.left g.S.Source.faults _ _ g.K.Sink.taken g.K.Sink.faults c.in_ok-leaves.leaves _ _ _ c.in_ok-leaves.ensures.answer c.in_ok-write_sound.ensures
