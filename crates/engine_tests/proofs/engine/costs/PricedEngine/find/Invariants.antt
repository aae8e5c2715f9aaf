use Rattle.lift_grid.specs.Rectangle.{spans_of, sides_of}
use Rattle.engine_tests.proofs.engine.costs.PricedEngine.find.Given as goal

abbrev pub ghost-least_priced : goal.ghost-least_priced
ghost-least_priced a = spans_of (sides_of a.rows.now.case.root)
