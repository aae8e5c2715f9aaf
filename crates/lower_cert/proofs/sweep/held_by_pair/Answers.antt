use Rattle.std.proofs.Common.{rules, SFits, w64, to_z-of_z}
use Rattle.lower_cert.proofs.Lanes.{lane_holds}
use Rattle.lower_cert.proofs.sweep.held_by_pair.Goals as goal

pub returns-clause-most : goal.returns-clause-most
returns-clause-most g c =
    let fits : SFits w64 c.in_ok-number.number = search rules in
    let row = c.in_ok-row.row in
    let whole = c.in_ok-row.ensures.whole in
    rw (to_z-of_z fits) (lane_holds c.rows_at_corners.ensures.parameters c.args.rows.now.case g.spans c.args.lane.now c.args.s c.args.a row.sum row.whole row.scale c.in_ok-number.number c.requires.0.table.inside c.in_ok-row.ensures.least whole.1.0 whole.1.1.value c.in_ok-number.ensures.less)
