use Rattle.lift_grid.specs.Rectangle.{spans_of, sides_of}
use Rattle.engine_tests.proofs.engine.tables.row_reported.Given as goal

abbrev pub ghost-least : goal.ghost-least
ghost-least a = spans_of (sides_of a.self.now.case.root)

abbrev pub ghost-greatest : goal.ghost-greatest
ghost-greatest a = spans_of (sides_of a.self.now.case.root)

abbrev pub ghost-least_into : goal.ghost-least_into
ghost-least_into a = spans_of (sides_of a.self.now.case.root)
