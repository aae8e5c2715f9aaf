use Rattle.std.proofs.Common.{to_z-of_z}
use Rattle.lift_cost.proofs.cost.least_cost_within.Goals as goal

pub returns-clause-least : goal.returns-clause-least
returns-clause-least g c = rw c.new-rows.ensures at c.least_priced_within.ensures.least

pub returns-clause-past : goal.returns-clause-past
returns-clause-past g c = rw (c.new-rows.ensures, to_z-of_z c.ranges.limit) at c.least_priced_within.ensures.past
