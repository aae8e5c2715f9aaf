use Rattle.plift_top.specs.Heads.{IsHeaded}
use Rattle.plift_top.proofs.HeadedTexts.{text_cut}
use Rattle.plift_top.proofs.asking.answer.Goals as goal

pub returns-in_err-written : goal.returns-in_err-written
returns-in_err-written g c =
    text_cut (IsHeaded (g.A.Asking.head c.args.asked.now) (g.A.Asking.are_nodes c.args.asked.now)) g.K.Sink.taken g.K.Sink.faults _ _ _ c.from_residual-in_err-written.result c.from_residual-in_err-written.ensures.1 c.in_err-written.ensures

pub returns : goal.returns
returns g c = (c.in_ok-written.ensures.some, c.in_ok-written.ensures.whole)
