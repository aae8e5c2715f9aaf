use Rattle.lift_grid.specs.Rectangle.{spans_of, sides_of}
use Rattle.engine_tests.proofs.engine.tables.into_goal.Given as goal

abbrev pub ghost-table_into : goal.ghost-table_into
ghost-table_into a = spans_of (sides_of a.self.now.case.root)

abbrev pub ghost-least_into : goal.ghost-least_into
ghost-least_into a = spans_of (sides_of a.self.now.case.root)
