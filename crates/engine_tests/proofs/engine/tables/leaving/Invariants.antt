use Rattle.lift_grid.specs.Rectangle.{spans_of, sides_of}
use Rattle.engine_tests.proofs.engine.tables.leaving.Given as goal

abbrev pub ghost-has_short_sums : goal.ghost-has_short_sums
ghost-has_short_sums a = spans_of (sides_of a.case.now.root)

abbrev pub ghost-others : goal.ghost-others
ghost-others a = spans_of (sides_of a.self.now.case.root)
