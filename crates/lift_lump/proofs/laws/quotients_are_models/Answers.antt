use Rattle.lift_lump.proofs.Modelled.{quotients_are_models}
use Rattle.lift_lump.proofs.laws.quotients_are_models.Goals as goal

pub returns : goal.returns
returns c = quotients_are_models c.coefficients_determine.ensures.polynomial
