use Rattle.lift_grid.specs.Rectangle.{spans_of, sides_of}
use Rattle.engine_tests.proofs.engine.tables.at_corners.Given as goal

abbrev pub ghost-table_value : goal.ghost-table_value
ghost-table_value a = spans_of (sides_of a.self.now.case.root)

abbrev pub ghost-table_corner : goal.ghost-table_corner
ghost-table_corner a = spans_of (sides_of a.self.now.case.root)
