use Rattle.std.proofs.Common.{false}
use Rattle.lower_cert.specs.Lowering.{IsLowered, total}
use Rattle.lower_cert.proofs.descent.Descent.settle_part.Given as goal

abbrev pub ghost-pass : goal.ghost-pass
ghost-pass g a = g.run

abbrev pub invariant-loop-part : goal.invariant-loop-part
invariant-loop-part g l = IsLowered l.self.rows.now.case g.run l.initial.lane l.lane false

abbrev pub decreases-loop-part : goal.decreases-loop-part
decreases-loop-part g l = total l.lane
