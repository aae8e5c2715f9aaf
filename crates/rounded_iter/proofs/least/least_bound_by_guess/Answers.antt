use Rattle.std.proofs.Common.{to_z-of_z}
use Rattle.rounded_iter.proofs.Solving.{laws_of}
use Rattle.rounded_iter.proofs.Guessing.{within_of}
use Rattle.rounded_iter.proofs.least.least_bound_by_guess.Goals as goal

pub returns : goal.returns
returns g c =
    let found = rw (to_z-of_z c.ranges.limit) at c.find_by_guess.ensures in
    within_of (laws_of c.rows_at_corners.ensures.parameters c.rows_at_corners.ensures.numbers c.rows_at_corners.ensures.range c.rows_at_corners.ensures.rise c.corners_bound_weights.ensures.sum) _ g.spans (record { case = c.w.ensures.case; links = c.requires.links; table = c.requires.table }) c.find_by_guess.new.lane c.find_by_guess.result found
