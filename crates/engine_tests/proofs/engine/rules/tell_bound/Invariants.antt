use Rattle.lift_grid.specs.Rectangle.{spans_of, sides_of}
use Rattle.engine_tests.proofs.engine.rules.tell_bound.Given as goal

abbrev pub ghost-least_bound : goal.ghost-least_bound
ghost-least_bound a = spans_of (sides_of a.rows.now.case.root)
