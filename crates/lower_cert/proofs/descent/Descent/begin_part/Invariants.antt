use Rattle.lower_cert.specs.Lowering.{from_top}
use Rattle.lower_cert.proofs.descent.Descent.begin_part.Given as goal

abbrev pub ghost-visit_alone : goal.ghost-visit_alone
ghost-visit_alone g a = from_top a.rows.now.case g.spans

abbrev pub ghost-begin_cycle : goal.ghost-begin_cycle
ghost-begin_cycle g a = g.spans
