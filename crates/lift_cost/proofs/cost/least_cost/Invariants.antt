use Rattle.lift_cost.proofs.cost.least_cost.Given as goal

abbrev pub ghost-least_priced : goal.ghost-least_priced
ghost-least_priced g a = g.spans
