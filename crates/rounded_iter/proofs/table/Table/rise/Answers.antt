use Rattle.rounded_iter.proofs.Solving.{laws_of}
use Rattle.rounded_iter.proofs.Guessing.{least_from_zero, found_of}
use Rattle.rounded_iter.proofs.table.Table.rise.Goals as goal

pub returns-in-Settled-clause-found : goal.returns-in-Settled-clause-found
returns-in-Settled-clause-found g c =
    found_of (laws_of c.rows_at_corners.ensures.parameters c.rows_at_corners.ensures.numbers c.rows_at_corners.ensures.range c.rows_at_corners.ensures.rise c.corners_bound_weights.ensures.sum) c.args.self.now g.spans c.climb.new.lane c.is_past.result (least_from_zero (laws_of c.rows_at_corners.ensures.parameters c.rows_at_corners.ensures.numbers c.rows_at_corners.ensures.range c.rows_at_corners.ensures.rise c.corners_bound_weights.ensures.sum) c.args.self.now g.spans c.climb.new.lane (c.climb.ensures.least c.in-Settled.is)) c.is_past.ensures.past c.is_past.ensures.within
