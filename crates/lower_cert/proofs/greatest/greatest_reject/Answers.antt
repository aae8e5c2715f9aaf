use Rattle.std.proofs.Common.{arith}
use Rattle.lift_poly.proofs.Ring.{linear}
use Rattle.lower_cert.proofs.greatest.greatest_reject.Goals as goal

pub rate_of-requires : goal.rate_of-requires
rate_of-requires g c =
    let high = rw c.new-rows.ensures at c.descend.ensures.high in
    let range = c.rows_at_corners.ensures.numbers c.args.case.now c.descend.new.lane c.args.case.now.model.init high.numbers in
    rw c.new-rows.ensures (c.requires.0.table, (high, (rw c.new-rows.ensures at c.descend.ensures.settled) (omega (arith, linear, range.0))))
