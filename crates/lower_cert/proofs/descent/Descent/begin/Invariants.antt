use Rattle.std.proofs.Common.{◌-◌, ◌≤◌}
use Rattle.lower_cert.specs.Lowering.{IsHigh}
use Rattle.lower_cert.proofs.descent.Descent.begin.Given as goal

abbrev pub ghost-start : goal.ghost-start
ghost-start g a = g.spans

abbrev pub ghost-begin_part : goal.ghost-begin_part
ghost-begin_part g a = g.spans

abbrev pub invariant-loop-low : goal.invariant-loop-low
invariant-loop-low g l = IsHigh l.self.rows.now.case g.spans l.lane × (l.low ≤ l.states)

abbrev pub decreases-loop-low : goal.decreases-loop-low
decreases-loop-low g l = l.states - l.low
