use Rattle.lift_grid.specs.Rectangle.{spans_of}
use Rattle.lift_cost.proofs.decider.CostDeciderDecider.decide.Given as goal

abbrev pub ghost-decide : goal.ghost-decide
ghost-decide a = spans_of a.sides.now
