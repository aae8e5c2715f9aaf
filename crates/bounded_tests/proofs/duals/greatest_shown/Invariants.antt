use Rattle.lift_grid.specs.Rectangle.{spans_of, sides_of}
use Rattle.bounded_tests.proofs.duals.greatest_shown.Given as goal

abbrev pub ghost-greatest_all : goal.ghost-greatest_all
ghost-greatest_all a = spans_of (sides_of a.case.now.root)
