use Rattle.lift_dual.proofs.Untils.{until_is_reached_by_all, until_is_bounded_for_one, until_is_bounded_for_all, until_is_reached_by_one}
use Rattle.lift_dual.proofs.laws.until_is_bounded.Goals as goal

pub returns : goal.returns
returns c =
    let until = c.until_is_reach.ensures in
    record {
      lower_all = until_is_reached_by_all until.plans c.all_and_one.ensures.all;
      upper_one = until_is_bounded_for_one until.choices until.memoryless c.all_and_one.ensures.one;
      upper_all = until_is_bounded_for_all until.plans c.rows_at_corners.ensures.numbers c.certificates_decide.ensures.accepting;
      lower_one = until_is_reached_by_one until.choices until.memoryless c.rejecting_certificates_reach.ensures.lower;
    }
