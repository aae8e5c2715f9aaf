use Rattle.std.proofs.Common.{◌-◌, ◌≤◌, false}
use Rattle.lower_cert.specs.Lowering.{IsLowered}
use Rattle.lower_cert.proofs.descent.Descent.settle.Given as goal

abbrev pub ghost-settle_part : goal.ghost-settle_part
ghost-settle_part g a = g.run

abbrev pub invariant-loop-low : goal.invariant-loop-low
invariant-loop-low g l = IsLowered l.self.rows.now.case g.run l.initial.lane l.lane false × (l.low ≤ l.states)

abbrev pub decreases-loop-low : goal.decreases-loop-low
decreases-loop-low g l = l.states - l.low
