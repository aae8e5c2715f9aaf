use Rattle.lift_cert.proofs.Rejecting.{rejecting_reaches, lower_bounds}
use Rattle.lift_cert.proofs.laws.rejecting_certificates_reach.Goals as goal

pub returns : goal.returns
returns c = record {
  reached = rejecting_reaches c.weighted_sums_follow.ensures.least c.weighted_sums_follow.ensures.rise c.rows_at_corners.ensures.numbers c.rows_inside.ensures.weights c.rows_inside.ensures.sums c.rows_inside.ensures.least;
  lower = lower_bounds c.weighted_sums_follow.ensures.least c.weighted_sums_follow.ensures.rise c.rows_at_corners.ensures.numbers c.rows_inside.ensures.weights c.rows_inside.ensures.sums c.rows_inside.ensures.least;
}
