use Rattle.lift_cost.proofs.question.CostQuestion.decide.Given as goal

abbrev pub ghost-find : goal.ghost-find
ghost-find g a = g.spans
