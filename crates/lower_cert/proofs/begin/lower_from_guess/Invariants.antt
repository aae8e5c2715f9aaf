use Rattle.lower_cert.specs.Lowering.{from_guess}
use Rattle.lower_cert.proofs.begin.lower_from_guess.Given as goal

abbrev pub ghost-settle_within : goal.ghost-settle_within
ghost-settle_within g a = from_guess g.spans a.lane.now
