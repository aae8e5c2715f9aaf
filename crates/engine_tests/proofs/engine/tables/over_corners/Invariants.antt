use Rattle.lift_grid.specs.Rectangle.{spans_of, sides_of}
use Rattle.engine_tests.proofs.engine.tables.over_corners.Given as goal

abbrev pub ghost-table_least : goal.ghost-table_least
ghost-table_least a = spans_of (sides_of a.self.now.case.root)

abbrev pub ghost-table_greatest : goal.ghost-table_greatest
ghost-table_greatest a = spans_of (sides_of a.self.now.case.root)
