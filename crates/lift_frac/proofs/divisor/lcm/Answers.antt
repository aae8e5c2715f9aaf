use Rattle.lift_frac.proofs.Euclid.{lcm_at_least}
use Rattle.lift_frac.proofs.divisor.lcm.Goals as goal

pub returns-clause-at_least : goal.returns-clause-at_least
returns-clause-at_least c = rw (c.gcd.ensures.value, c.from-a.ensures, c.from-b.ensures) (lcm_at_least c.args.a c.args.b c.requires)
