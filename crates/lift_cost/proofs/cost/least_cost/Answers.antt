use Rattle.lift_cost.proofs.cost.least_cost.Goals as goal

pub returns-clause-least : goal.returns-clause-least
returns-clause-least g c = rw c.new-rows.ensures at c.least_priced.ensures.least

pub returns-clause-none : goal.returns-clause-none
returns-clause-none g c = rw c.new-rows.ensures at c.least_priced.ensures.none
