use Rattle.std.proofs.Common.{to_z-of_z}
use Rattle.rounded_iter.proofs.Solving.{laws_of}
use Rattle.rounded_iter.proofs.Raising.{least_within_of}
use Rattle.rounded_iter.proofs.least.least_upper_within.Goals as goal

pub returns : goal.returns
returns g c =
    let found = rw (to_z-of_z c.ranges.limit, c.new-rows.ensures) at c.least_bound.ensures in
    least_within_of (laws_of c.rows_at_corners.ensures.parameters c.rows_at_corners.ensures.numbers c.rows_at_corners.ensures.range c.rows_at_corners.ensures.rise c.corners_bound_weights.ensures.sum) c.args.case.now g.spans c.w.ensures.case c.requires.table.inside c.least_bound.new.lane c.args.limit c.least_bound.result found
