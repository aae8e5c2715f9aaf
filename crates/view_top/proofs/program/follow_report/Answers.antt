use Rattle.view_top.proofs.Acting.{cut_off, all_copied, cut_reported, all_reported}
use Rattle.view_top.proofs.program.follow_report.Goals as goal

pub returns-in_err-follow : goal.returns-in_err-follow
returns-in_err-follow g c = record {
  follows = cut_off g.S.Source.left g.S.Source.faults g.K.Sink.taken g.K.Sink.faults _ _ _ _ _ c.from_residual.result c.from_residual.ensures.1 c.in_err-follow.ensures.copied;
  reported = cut_reported g.S.Source.left g.E.Sink.taken g.E.Sink.faults c.args.lines _ _ _ _ _ c.from_residual.result c.from_residual.ensures.1 c.in_err-follow.ensures.reported;
}

pub returns : goal.returns
returns g c = record {
  follows = all_copied g.S.Source.left g.S.Source.faults g.K.Sink.taken g.K.Sink.faults _ _ _ _ _ c.in_ok-follow.ensures.copied;
  reported = all_reported g.S.Source.left g.E.Sink.taken g.E.Sink.faults c.args.lines _ _ _ _ _ c.in_ok-follow.ensures.reported;
}
