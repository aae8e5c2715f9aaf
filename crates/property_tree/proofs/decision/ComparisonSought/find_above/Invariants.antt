use Rattle.lift_grid.specs.Rectangle.{spans_of}
use Rattle.property_tree.proofs.decision.ComparisonSought.find_above.Given as goal

abbrev pub ghost-least_upper_within : goal.ghost-least_upper_within
ghost-least_upper_within a = spans_of a.self.now.sides.now

abbrev pub ghost-upper_one_within : goal.ghost-upper_one_within
ghost-upper_one_within a = spans_of a.finder.now.sides.now
