use Rattle.view_words.specs.Given.{view_data}
use Rattle.view_top.proofs.Acting.{no_job, does_show, does_follow, no_job_reported, show_reported, follow_reported}
use Rattle.view_top.proofs.program.act.Goals as goal

pub returns-in_err-view : goal.returns-in_err-view
returns-in_err-view g c = record {
  acts = no_job g.S.Source.left g.S.Source.faults g.K.Sink.taken g.K.Sink.faults _ _ _ _ c.from_residual.result c.from_residual.ensures.1 c.in_err-view.ensures;
  first = no_job_reported g.S.Source.left g.E.Sink.taken g.E.Sink.faults c.args.lines _ _ _ _ c.from_residual.result c.from_residual.ensures.1 c.in_err-view.ensures;
}

pub returns-in-Show : goal.returns-in-Show
returns-in-Show g c = record {
  acts = does_show g.S.Source.left g.S.Source.faults g.K.Sink.taken g.K.Sink.faults _ (view_data c.in-Show.view) _ _ _ _ _ (rw c.in-Show.is at c.in_ok-view.ensures) c.show.ensures;
  first = show_reported g.S.Source.left g.E.Sink.taken g.E.Sink.faults c.args.lines _ (view_data c.in-Show.view) _ _ _ _ (rw c.in-Show.is at c.in_ok-view.ensures);
}

pub returns-in-Follow : goal.returns-in-Follow
returns-in-Follow g c = record {
  acts = does_follow g.S.Source.left g.S.Source.faults g.K.Sink.taken g.K.Sink.faults _ _ _ _ _ _ (rw c.in-Follow.is at c.in_ok-view.ensures) c.follow_report.ensures.follows;
  first = follow_reported g.S.Source.left g.E.Sink.taken g.E.Sink.faults c.args.lines _ _ _ _ _ _ (rw c.in-Follow.is at c.in_ok-view.ensures) c.follow_report.ensures.reported;
}
