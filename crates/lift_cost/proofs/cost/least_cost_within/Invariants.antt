use Rattle.lift_cost.proofs.cost.least_cost_within.Given as goal

abbrev pub ghost-least_priced_within : goal.ghost-least_priced_within
ghost-least_priced_within g a = g.spans
