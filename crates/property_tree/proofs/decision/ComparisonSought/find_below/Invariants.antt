use Rattle.lift_grid.specs.Rectangle.{spans_of}
use Rattle.property_tree.proofs.decision.ComparisonSought.find_below.Given as goal

abbrev pub ghost-greatest_lower_above : goal.ghost-greatest_lower_above
ghost-greatest_lower_above a = spans_of a.self.now.sides.now

abbrev pub ghost-lower_all_above : goal.ghost-lower_all_above
ghost-lower_all_above a = spans_of a.finder.now.sides.now
