use Rattle.lift_cost.proofs.question.CostQuestion.find.Given as goal

abbrev pub ghost-least_cost_within : goal.ghost-least_cost_within
ghost-least_cost_within g a = g.spans
