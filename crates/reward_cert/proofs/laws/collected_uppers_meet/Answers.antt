use Rattle.reward_cert.proofs.Meeting.{collected_upper_alls_meet, collected_upper_ones_meet}
use Rattle.reward_cert.proofs.laws.collected_uppers_meet.Goals as goal

pub returns : goal.returns
returns c = record {
  all = collected_upper_alls_meet c.rows_at_corners.ensures.parameters c.rows_at_corners.ensures.rise c.corners_bound_weights.ensures.sum;
  one = collected_upper_ones_meet c.rows_at_corners.ensures.parameters c.rows_at_corners.ensures.rise c.corners_bound_weights.ensures.sum;
}
