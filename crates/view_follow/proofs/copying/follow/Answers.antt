use Rattle.view_follow.specs.Progress.{Passes, progress_lines, WroteEach}
use Rattle.view_follow.proofs.Telling.{passed_map, reported_all}
use Rattle.view_follow.proofs.copying.follow.Goals as goal

pub returns-clause-reported : goal.returns-clause-reported
returns-clause-reported g c =
    let start = c.new-progress.result in
    let last = c.copy-copied.new.progress in
    passed_map g.S.Source.left c.args.source.now c.copy-copied.new.source (Passes g.E.Sink.taken g.E.Sink.faults c.args.notes.now c.copy-copied.new.notes start last) (λ bytes. WroteEach g.E.Sink.taken g.E.Sink.faults c.args.notes.now c.end.new.notes (progress_lines c.args.lines bytes))
    (λ bytes h. reported_all g.E.Sink.taken g.E.Sink.faults _ _ _ c.args.lines start last bytes c.new-progress.ensures.state c.new-progress.ensures.line c.new-progress.ensures.lines c.end.ensures h) c.copy-copied.result c.copy-copied.ensures.reported
