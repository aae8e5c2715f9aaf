use Rattle.std.proofs.Common.{to_z-of_z}
use Rattle.rounded_iter.proofs.Solving.{laws_of}
use Rattle.rounded_iter.proofs.Pricing.{least_priced_of, none_priced, bound_of_priced}
use Rattle.rounded_iter.proofs.priced.least_priced_within.Goals as goal

pub returns-clause-least : goal.returns-clause-least
returns-clause-least g c =
    λ e. least_priced_of (laws_of c.rows_at_corners.ensures.parameters c.rows_at_corners.ensures.numbers c.rows_at_corners.ensures.range c.rows_at_corners.ensures.rise c.corners_bound_weights.ensures.sum) c.args.rows.now.case g.spans c.w.ensures.case c.requires.table.inside c.args.rewards.now c.least_bound.new.lane (c.least_bound.ensures.least c.if-not-least_bound.false) (c.pays_all.ensures.paid e)

pub returns-clause-past : goal.returns-clause-past
returns-clause-past g c =
    λ e y priced. absurd (none_priced (laws_of c.rows_at_corners.ensures.parameters c.rows_at_corners.ensures.numbers c.rows_at_corners.ensures.range c.rows_at_corners.ensures.rise c.corners_bound_weights.ensures.sum) c.args.rows.now.case g.spans c.w.ensures.case c.requires.table.inside c.args.rewards.now c.least_bound.new.lane (c.least_bound.ensures.least c.if-not-least_bound.false) (c.pays_all.ensures.unpaid e) y priced)

pub returns-then-not-least_bound-clause-past : goal.returns-then-not-least_bound-clause-past
returns-then-not-least_bound-clause-past g c =
    λ e z priced. (rw (to_z-of_z c.ranges.limit) at c.least_bound.ensures.past) c.if-not-least_bound.true z (bound_of_priced (laws_of c.rows_at_corners.ensures.parameters c.rows_at_corners.ensures.numbers c.rows_at_corners.ensures.range c.rows_at_corners.ensures.rise c.corners_bound_weights.ensures.sum) c.args.rows.now.case g.spans c.w.ensures.case c.requires.table.inside c.args.rewards.now z priced)

pub returns-then-has_endless-clause-past : goal.returns-then-has_endless-clause-past
returns-then-has_endless-clause-past g c = λ e z priced. absurd (c.has_endless.ensures c.if-has_endless.true z priced)
