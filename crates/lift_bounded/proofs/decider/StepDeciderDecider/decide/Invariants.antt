use Rattle.lift_grid.specs.Rectangle.{spans_of}
use Rattle.lift_bounded.proofs.decider.StepDeciderDecider.decide.Given as goal

abbrev pub ghost-decide_over : goal.ghost-decide_over
ghost-decide_over a = spans_of a.sides.now
