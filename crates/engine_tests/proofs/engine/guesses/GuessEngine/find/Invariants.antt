use Rattle.lift_grid.specs.Rectangle.{spans_of, sides_of}
use Rattle.engine_tests.proofs.engine.guesses.GuessEngine.find.Given as goal

abbrev pub ghost-least_upper : goal.ghost-least_upper
ghost-least_upper a = spans_of (sides_of a.case.now.root)
