use Rattle.std.proofs.Common.{List}
use Rattle.std.specs.List.{concat}
use Rattle.lift_grid.specs.Tree.{RejectData}
use Rattle.cert_text.specs.Report.{at_lines, reject_lines}
use Rattle.plift_top.proofs.Telling.{stopped_visit, visited_then}
use Rattle.plift_top.proofs.report.ReporterVisitor.reject.Goals as goal

pub returns-in-Ok-clause-visits : goal.returns-in-Ok-clause-visits
returns-in-Ok-clause-visits g c =
    let r : RejectData = record { numbers = c.args.y.now; picks = c.args.picks.now; ranks = c.args.ranks.now; e = c.args.e; k = c.args.k } in
    let lines = concat (reject_lines c.args.self.now.case.now.model.init c.args.u r) in
    let v = visited_then g.K.Sink.taken g.K.Sink.faults c.writes_in_turn.ensures.both c.args.self.now.out.now c.write_precision.new.out c.write_reject.new.out c.write_reject.result c.seen.result
    (concat (at_lines c.args.self.now.from c.args.u)) lines c.in-Ok.ensures (rw c.at-case.ensures at c.write_reject.ensures) c.seen.ensures in
    record { took = v.took; cause = v.cause; later = v.later }

pub returns-in-Err-clause-visits : goal.returns-in-Err-clause-visits
returns-in-Err-clause-visits g c =
    let r : RejectData = record { numbers = c.args.y.now; picks = c.args.picks.now; ranks = c.args.ranks.now; e = c.args.e; k = c.args.k } in
    let v = stopped_visit g.K.Sink.taken g.K.Sink.faults c.writes_in_turn.ensures.stopped c.args.self.now.out.now c.write_precision.new.out _
    (concat (at_lines c.args.self.now.from c.args.u)) (concat (reject_lines c.args.self.now.case.now.model.init c.args.u r)) c.in-Err.ensures in
    record { took = v.took; cause = v.cause; later = v.later }
