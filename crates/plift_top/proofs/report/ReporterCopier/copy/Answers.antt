use Rattle.plift_top.proofs.Telling.{visited}
use Rattle.plift_top.proofs.report.ReporterCopier.copy.Goals as goal

pub returns-clause-visits : goal.returns-clause-visits
returns-clause-visits g c =
    let v = visited g.K.Sink.taken g.K.Sink.faults c.args.self.now.out.now c.write_all.new.out c.write_all.result c.seen.result c.args.bytes.now c.write_all.ensures.wrote c.seen.ensures in
    record { took = v.took; cause = v.cause; later = v.later }
