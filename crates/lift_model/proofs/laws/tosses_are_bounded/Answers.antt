use Rattle.lift_model.proofs.Tossing.{tosses_are_bounded}
use Rattle.lift_model.proofs.laws.tosses_are_bounded.Goals as goal

pub returns : goal.returns
returns c = tosses_are_bounded
