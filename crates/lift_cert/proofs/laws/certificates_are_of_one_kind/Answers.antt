use Rattle.lift_cert.proofs.BothKinds.{lower_is_below_upper, not_both_kinds, not_both_kinds_at}
use Rattle.lift_cert.proofs.laws.certificates_are_of_one_kind.Goals as goal

pub returns : goal.returns
returns c =
    let follow = c.weighted_sums_follow.ensures in
    let corners = c.rows_at_corners.ensures in
    let rows = c.rows_inside.ensures in
    record {
      below = lower_is_below_upper follow.least follow.rise corners.numbers rows.weights rows.sums rows.most rows.least;
      one = not_both_kinds follow.least follow.rise corners.numbers rows.weights rows.sums rows.most rows.least;
      shared = not_both_kinds_at follow.least follow.rise corners.numbers rows.weights rows.sums rows.most rows.least;
    }
