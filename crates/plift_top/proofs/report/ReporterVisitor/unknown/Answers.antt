use Rattle.region_tree.specs.Nodes.Node.{unknown}
use Rattle.plift_top.specs.RightReport.{node_text}
use Rattle.plift_top.proofs.Telling.{visited}
use Rattle.plift_top.proofs.report.ReporterVisitor.unknown.Goals as goal

pub returns-clause-visits : goal.returns-clause-visits
returns-clause-visits g c =
    let v = visited g.K.Sink.taken g.K.Sink.faults c.args.self.now.out.now c.write_unknown.new.out c.write_unknown.result c.seen.result (node_text c.args.self.now.case.now c.args.self.now.from (unknown)) c.write_unknown.ensures c.seen.ensures in
    record { took = v.took; cause = v.cause; later = v.later }
