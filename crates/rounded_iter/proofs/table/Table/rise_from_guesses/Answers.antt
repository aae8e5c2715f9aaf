use Rattle.rounded_iter.proofs.Solving.{laws_of}
use Rattle.rounded_iter.proofs.Guessing.{found_of}
use Rattle.rounded_iter.proofs.table.Table.rise_from_guesses.Goals as goal

pub returns-in-Least-clause-found : goal.returns-in-Least-clause-found
returns-in-Least-clause-found g c =
    found_of (laws_of c.rows_at_corners.ensures.parameters c.rows_at_corners.ensures.numbers c.rows_at_corners.ensures.range c.rows_at_corners.ensures.rise c.corners_bound_weights.ensures.sum) c.args.self.now g.spans c.rise_from_guess-raised.new.lane c.is_past.result (c.rise_from_guess-raised.ensures.least c.in-Least.is) c.is_past.ensures.past c.is_past.ensures.within
