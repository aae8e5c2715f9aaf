use Rattle.lift_grid.specs.Rectangle.{spans_of, sides_of}
use Rattle.engine_tests.proofs.engine.tables.bounds_of.Given as goal

abbrev pub ghost-is_capped : goal.ghost-is_capped
ghost-is_capped a = spans_of (sides_of a.self.now.case.root)

abbrev pub ghost-is_held : goal.ghost-is_held
ghost-is_held a = spans_of (sides_of a.self.now.case.root)
