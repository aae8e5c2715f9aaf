use Rattle.lift_frac.proofs.Values.{reading_fraction}
use Rattle.lift_frac.proofs.laws.literals_follow.Goals as goal

pub returns : goal.returns
returns c = reading_fraction
