use Rattle.lift_grid.specs.Rectangle.{spans_of, sides_of}
use Rattle.engine_tests.proofs.engine.ranks.ByStagesEngine.find.Given as goal

abbrev pub ghost-attract : goal.ghost-attract
ghost-attract a = spans_of (sides_of a.case.now.root)
