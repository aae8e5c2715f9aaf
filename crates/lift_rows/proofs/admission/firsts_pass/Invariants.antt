use Rattle.lift_rows.proofs.Same.{AreFirstsAdmitted}
use Rattle.lift_rows.proofs.admission.firsts_pass.Given as goal

abbrev pub invariant-loop-first : goal.invariant-loop-first
invariant-loop-first l = AreFirstsAdmitted l.asked l.links l.first-index
