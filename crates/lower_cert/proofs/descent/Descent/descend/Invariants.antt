use Rattle.lower_cert.specs.Lowering.{IsHigh, total}
use Rattle.lower_cert.proofs.descent.Descent.descend.Given as goal

abbrev pub ghost-lower_once : goal.ghost-lower_once
ghost-lower_once g a = g.spans

abbrev pub invariant-loop : goal.invariant-loop
invariant-loop g l = IsHigh l.self.rows.now.case g.spans l.lane

abbrev pub decreases-loop : goal.decreases-loop
decreases-loop g l = total l.lane
