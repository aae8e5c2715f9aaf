use Rattle.lift_frac.proofs.Values.{quotient_fraction, literal_fraction}
use Rattle.lift_frac.proofs.laws.fractions_follow.Goals as goal

pub returns : goal.returns
returns c = record { quotients = quotient_fraction; literals = literal_fraction }
