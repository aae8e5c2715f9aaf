use Rattle.std.proofs.Common.{◌<◌}
use Rattle.view_follow.specs.Progress.{percent, progress_data, share_sum}
use Rattle.view_follow.proofs.Telling.{reported_once}
use Rattle.view_follow.proofs.progress.Progress.tell.Goals as goal

pub returns-then-self-percent-clause-reported : goal.returns-then-self-percent-clause-reported
returns-then-self-percent-clause-reported g c =
    let p = progress_data c.args.self.now in
    let less : p.reported < percent (share_sum p.shares) = rw (c.percent-percent.ensures, c.sum.ensures.sum) at c.if-self-percent.true in
    reported_once g.E.Sink.taken g.E.Sink.faults _ _ c.args.self.now.lines p c.write.result less c.write.ensures
