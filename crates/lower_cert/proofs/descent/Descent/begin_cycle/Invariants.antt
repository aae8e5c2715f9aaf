use Rattle.lower_cert.specs.Lowering.{from_top}
use Rattle.lower_cert.proofs.descent.Descent.begin_cycle.Given as goal

abbrev pub ghost-visit_first : goal.ghost-visit_first
ghost-visit_first g a = from_top a.rows.now.case g.spans

abbrev pub ghost-settle_within : goal.ghost-settle_within
ghost-settle_within g a = from_top a.self.now.rows.now.case g.spans

abbrev pub ghost-lower_from_guesses : goal.ghost-lower_from_guesses
ghost-lower_from_guesses g a = g.spans

abbrev pub ghost-lower_anew : goal.ghost-lower_anew
ghost-lower_anew g a = g.spans
