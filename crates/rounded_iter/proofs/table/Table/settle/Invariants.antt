use Rattle.rounded_iter.specs.Rising.{room}
use Rattle.rounded_iter.specs.Watching.{IsKept}
use Rattle.rounded_iter.proofs.table.Table.settle.Given as goal

abbrev pub ghost-pass : goal.ghost-pass
ghost-pass g a = g.run

abbrev pub invariant-loop-patience : goal.invariant-loop-patience
invariant-loop-patience g l = IsKept l.self g.run l.lane l.work l.high

abbrev pub decreases-loop-patience : goal.decreases-loop-patience
decreases-loop-patience g l = room l.self.case.w l.lane
