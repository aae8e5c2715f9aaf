use Rattle.std.proofs.Common.{false}
use Rattle.lower_cert.specs.Lowering.{IsLowered}
use Rattle.lower_cert.proofs.begin.visit_first.Given as goal

abbrev pub ghost-visit : goal.ghost-visit
ghost-visit g a = g.run

abbrev pub invariant-loop-position : goal.invariant-loop-position
invariant-loop-position g l = IsLowered l.rows.case g.run l.initial.lane l.lane false
