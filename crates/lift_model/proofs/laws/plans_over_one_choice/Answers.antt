use Rattle.lift_model.proofs.Choosing.{choices_fit, fits_choice, choices_reach}
use Rattle.lift_model.proofs.laws.plans_over_one_choice.Goals as goal

pub returns : goal.returns
returns c = record { fits = choices_fit; picks = fits_choice; reach = choices_reach }
