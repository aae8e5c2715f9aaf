use Rattle.lift_grid.specs.Rectangle.{spans_of}
use Rattle.region_tree.proofs.at_most.BoundSought.find_below.Given as goal

abbrev pub ghost-greatest_lower_above : goal.ghost-greatest_lower_above
ghost-greatest_lower_above a = spans_of a.self.now.sides.now
