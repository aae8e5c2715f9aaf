use Rattle.lift_grid.specs.Rectangle.{spans_of, sides_of}
use Rattle.engine_tests.proofs.engine.greatest.AboveEngine.find.Given as goal

abbrev pub ghost-greatest_reject_above : goal.ghost-greatest_reject_above
ghost-greatest_reject_above a = spans_of (sides_of a.case.now.root)
