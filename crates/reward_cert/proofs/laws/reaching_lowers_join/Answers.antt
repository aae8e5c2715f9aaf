use Rattle.reward_cert.proofs.Joining.{reaching_lower_alls_join, reaching_lower_ones_join}
use Rattle.reward_cert.proofs.laws.reaching_lowers_join.Goals as goal

pub returns : goal.returns
returns c = record {
  all = reaching_lower_alls_join c.rows_at_corners.ensures.numbers c.rows_at_corners.ensures.rise;
  one = reaching_lower_ones_join c.rows_at_corners.ensures.numbers c.rows_at_corners.ensures.rise;
}
