use Rattle.lift_grid.specs.Rectangle.{spans_of, sides_of}
use Rattle.engine_tests.proofs.engine.greatest.GreatestEngine.find.Given as goal

abbrev pub ghost-greatest_reject : goal.ghost-greatest_reject
ghost-greatest_reject a = spans_of (sides_of a.case.now.root)
