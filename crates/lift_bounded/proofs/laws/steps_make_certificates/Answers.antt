use Rattle.lift_bounded.proofs.Making.{least_steps_are_least, greatest_steps_are_greatest, least_uppers_refute, greatest_lowers_refute}
use Rattle.lift_bounded.proofs.laws.steps_make_certificates.Goals as goal

pub returns : goal.returns
returns c = record {
  least = least_steps_are_least c.rows_at_corners.ensures.rise;
  greatest = greatest_steps_are_greatest c.rows_at_corners.ensures.rise;
  none_accept = least_uppers_refute;
  none_reject = greatest_lowers_refute;
}
