use Rattle.lift_model.proofs.order.Search.left_since.Given as goal

abbrev pub decreases-loop-first : goal.decreases-loop-first
decreases-loop-first l = l.first
