use Rattle.std.proofs.Common.{to_z-of_z}
use Rattle.lower_cert.proofs.Lanes.{lane_reaches, lane_is_reached}
use Rattle.lower_cert.proofs.lower.pair_holds.Goals as goal

pub returns : goal.returns
returns g c =
    let row = c.in_ok-row.row in
    let least = c.in_ok-row.ensures.least in
    let whole = c.in_ok-row.ensures.whole in
    let test = rw (to_z-of_z c.ranges.number) at c.in_ok-yes.ensures in (
      λ e. lane_reaches c.args.rows.now.case g.spans c.args.lane.now c.args.s 0 c.args.number row.sum row.whole row.scale least whole.1.0 whole.1.1.value (test.0 e),
      λ h. test.1 (lane_is_reached c.args.rows.now.case g.spans c.args.lane.now c.args.s 0 c.args.number row.sum row.whole row.scale least whole.1.0 whole.1.1.value h),
    )
