use Rattle.lift_grid.specs.Rectangle.{spans_of}
use Rattle.region_tree.proofs.at_most.BoundSought.find_above.Given as goal

abbrev pub ghost-least_upper_within : goal.ghost-least_upper_within
ghost-least_upper_within a = spans_of a.self.now.sides.now
