use Rattle.view_words.specs.Given.{view_data}
use Rattle.view_top.proofs.Showing.{stopped_as, written}
use Rattle.view_top.proofs.shown.show.Goals as goal

pub returns-in_err-map : goal.returns-in_err-map
returns-in_err-map g c = stopped_as g.S.Source.left g.S.Source.faults _ _ g.K.Sink.taken g.K.Sink.faults (view_data c.args.view.now) _ c.from_residual.result _ c.from_residual.ensures.1 c.in_err-map.ensures

pub returns : goal.returns
returns g c = written g.S.Source.left g.S.Source.faults _ _ g.K.Sink.taken g.K.Sink.faults (view_data c.args.view.now) c.in_ok-map.map c.write_view.result _ _ c.in_ok-map.ensures c.write_view.ensures
