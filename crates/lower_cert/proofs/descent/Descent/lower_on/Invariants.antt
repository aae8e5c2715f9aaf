use Rattle.lower_cert.specs.Lowering.{from_top}
use Rattle.lower_cert.proofs.descent.Descent.lower_on.Given as goal

abbrev pub ghost-lower_from_moved : goal.ghost-lower_from_moved
ghost-lower_from_moved g a = g.spans

abbrev pub ghost-settle_within : goal.ghost-settle_within
ghost-settle_within g a = from_top a.self.now.rows.now.case g.spans

abbrev pub ghost-lower_held : goal.ghost-lower_held
ghost-lower_held g a = from_top a.self.now.rows.now.case g.spans
