use Rattle.lift_grid.specs.Rectangle.{spans_of, sides_of}
use Rattle.engine_tests.proofs.engine.tables.pair_reported.Given as goal

abbrev pub ghost-least_of : goal.ghost-least_of
ghost-least_of a = spans_of (sides_of a.self.now.case.root)

abbrev pub ghost-greatest_of : goal.ghost-greatest_of
ghost-greatest_of a = spans_of (sides_of a.self.now.case.root)

abbrev pub ghost-least_into_of : goal.ghost-least_into_of
ghost-least_into_of a = spans_of (sides_of a.self.now.case.root)
