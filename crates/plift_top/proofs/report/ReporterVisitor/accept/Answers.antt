use Rattle.std.specs.List.{concat}
use Rattle.cert_text.specs.Report.{at_lines, accept_line}
use Rattle.plift_top.proofs.Telling.{stopped_visit, visited_then}
use Rattle.plift_top.proofs.report.ReporterVisitor.accept.Goals as goal

pub returns-in-Ok-clause-visits : goal.returns-in-Ok-clause-visits
returns-in-Ok-clause-visits g c =
    let v = visited_then g.K.Sink.taken g.K.Sink.faults c.writes_in_turn.ensures.both c.args.self.now.out.now c.write_precision.new.out c.write_accept.new.out c.write_accept.result c.seen.result
    (concat (at_lines c.args.self.now.from c.args.u)) (accept_line c.args.x.now) c.in-Ok.ensures c.write_accept.ensures c.seen.ensures in
    record { took = v.took; cause = v.cause; later = v.later }

pub returns-in-Err-clause-visits : goal.returns-in-Err-clause-visits
returns-in-Err-clause-visits g c =
    let v = stopped_visit g.K.Sink.taken g.K.Sink.faults c.writes_in_turn.ensures.stopped c.args.self.now.out.now c.write_precision.new.out _
    (concat (at_lines c.args.self.now.from c.args.u)) (accept_line c.args.x.now) c.in-Err.ensures in
    record { took = v.took; cause = v.cause; later = v.later }
