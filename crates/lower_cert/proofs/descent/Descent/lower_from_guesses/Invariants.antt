use Rattle.lower_cert.specs.Lowering.{from_top}
use Rattle.lower_cert.proofs.descent.Descent.lower_from_guesses.Given as goal

abbrev pub ghost-lower_from_guess : goal.ghost-lower_from_guess
ghost-lower_from_guess g a = g.spans

abbrev pub ghost-lower_from_unmoved : goal.ghost-lower_from_unmoved
ghost-lower_from_unmoved g a = g.spans

abbrev pub ghost-lower_on : goal.ghost-lower_on
ghost-lower_on g a = g.spans

abbrev pub ghost-lower_held : goal.ghost-lower_held
ghost-lower_held g a = from_top a.self.now.rows.now.case g.spans
