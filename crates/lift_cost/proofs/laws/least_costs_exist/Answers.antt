use Rattle.lift_cost.proofs.Least.{least_or_none}
use Rattle.lift_cost.proofs.laws.least_costs_exist.Goals as goal

pub returns : goal.returns
returns c k spans prices is inside = least_or_none c.rows_at_corners.ensures.numbers c.rows_at_corners.ensures.rise k spans is inside prices
