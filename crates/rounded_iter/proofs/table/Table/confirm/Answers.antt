use Rattle.std.proofs.Common.{arith, rules}
use Rattle.rounded_iter.proofs.Solving.{laws_of}
use Rattle.rounded_iter.proofs.Guessing.{guess_below, sure_of, guessed_least, guessed_below, found_past}
use Rattle.rounded_iter.proofs.table.Table.confirm.Goals as goal

pub climb_noted-ended-requires : goal.climb_noted-ended-requires
climb_noted-ended-requires g c = (
  record {
    read = c.requires.read;
    below = guess_below c.args.self.now.rule c.args.self.now.case g.spans c.args.lane.now c.requires.guess;
    places = c.requires.places;
  },
  search rules,
)

pub returns-then-sure-clause-least : goal.returns-then-sure-clause-least
returns-then-sure-clause-least g c =
    λ sure. guessed_least (laws_of c.rows_at_corners.ensures.parameters c.rows_at_corners.ensures.numbers c.rows_at_corners.ensures.range c.rows_at_corners.ensures.rise c.corners_bound_weights.ensures.sum) c.args.self.now g.spans c.requires.read c.args.lane.now c.climb_noted-ended.new.lane c.climb_noted-ended.ensures.below
    (λ s lt. sure_of c.args.self.now.rule c.args.self.now.case c.args.lane.now c.climb_noted-ended.new.lane c.note.new.noted s (c.note.ensures s (omega (arith, lt, c.requires.guess.numbers.size))) (c.is_sure-sure.ensures c.if-sure.true s lt))
    (c.climb_noted-ended.ensures.least c.in-Settled.is).bound

pub returns-then-sure-2-clause-past : goal.returns-then-sure-2-clause-past
returns-then-sure-2-clause-past g c =
    λ is. found_past c.args.self.now g.spans c.climb_noted-ended.new.lane
    (guessed_below (laws_of c.rows_at_corners.ensures.parameters c.rows_at_corners.ensures.numbers c.rows_at_corners.ensures.range c.rows_at_corners.ensures.rise c.corners_bound_weights.ensures.sum) c.args.self.now g.spans c.requires.read c.args.lane.now c.climb_noted-ended.new.lane c.climb_noted-ended.ensures.below
    (λ s lt. sure_of c.args.self.now.rule c.args.self.now.case c.args.lane.now c.climb_noted-ended.new.lane c.note.new.noted s (c.note.ensures s (omega (arith, lt, c.requires.guess.numbers.size))) (c.is_sure-sure.ensures c.if-sure-2.true s lt)))
    (c.climb_noted-ended.ensures.past c.in-Past.is)

pub returns-then-sure-3-clause-below : goal.returns-then-sure-3-clause-below
returns-then-sure-3-clause-below g c =
    λ is. guessed_below (laws_of c.rows_at_corners.ensures.parameters c.rows_at_corners.ensures.numbers c.rows_at_corners.ensures.range c.rows_at_corners.ensures.rise c.corners_bound_weights.ensures.sum) c.args.self.now g.spans c.requires.read c.args.lane.now c.climb_noted-ended.new.lane c.climb_noted-ended.ensures.below
    (λ s lt. sure_of c.args.self.now.rule c.args.self.now.case c.args.lane.now c.climb_noted-ended.new.lane c.note.new.noted s (c.note.ensures s (omega (arith, lt, c.requires.guess.numbers.size))) (c.is_sure-sure.ensures c.if-sure-3.true s lt))
