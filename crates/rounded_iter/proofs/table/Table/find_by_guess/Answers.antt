use Rattle.rounded_iter.proofs.Solving.{laws_of}
use Rattle.rounded_iter.proofs.Guessing.{found_of}
use Rattle.rounded_iter.proofs.table.Table.find_by_guess.Goals as goal

pub returns-in-Least : goal.returns-in-Least
returns-in-Least g c =
    found_of (laws_of c.rows_at_corners.ensures.parameters c.rows_at_corners.ensures.numbers c.rows_at_corners.ensures.range c.rows_at_corners.ensures.rise c.corners_bound_weights.ensures.sum) c.args.self.now g.spans c.confirm_all.new.lane c.is_past.result (c.confirm_all.ensures.least c.in-Least.is) c.is_past.ensures.past c.is_past.ensures.within
