use Rattle.lower_cert.specs.Lowering.{from_top}
use Rattle.lower_cert.proofs.descent.Descent.lower_anew.Given as goal

abbrev pub ghost-begin_anew : goal.ghost-begin_anew
ghost-begin_anew g a = g.spans

abbrev pub ghost-settle_within : goal.ghost-settle_within
ghost-settle_within g a = from_top a.self.now.rows.now.case g.spans

abbrev pub ghost-settle_part : goal.ghost-settle_part
ghost-settle_part g a = from_top a.self.now.rows.now.case g.spans
