use Rattle.lift_frac.proofs.Euclid.{gcd_is, is_gcd, positive, small, lcm_multiple, lcm_least, lcm_at_least}
use Rattle.lift_frac.proofs.laws.divisors_and_multiples.Goals as goal

pub returns : goal.returns
returns c = record {
  greatest = gcd_is;
  unique = is_gcd;
  within = λ a b above. (positive a b _ (gcd_is a b) above, small a b _ (gcd_is a b) above);
  multiple = lcm_multiple;
  least = lcm_least;
  at_least = lcm_at_least;
}
