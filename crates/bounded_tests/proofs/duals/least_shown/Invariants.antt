use Rattle.lift_grid.specs.Rectangle.{spans_of, sides_of}
use Rattle.bounded_tests.proofs.duals.least_shown.Given as goal

abbrev pub ghost-least_one : goal.ghost-least_one
ghost-least_one a = spans_of (sides_of a.case.now.root)
