use Rattle.lower_cert.specs.Lowering.{from_top}
use Rattle.lower_cert.proofs.descent.Descent.lower_to_end.Given as goal

abbrev pub ghost-settle_within : goal.ghost-settle_within
ghost-settle_within g a = from_top a.self.now.rows.now.case g.spans

abbrev pub ghost-lower_held : goal.ghost-lower_held
ghost-lower_held g a = from_top a.self.now.rows.now.case g.spans
