use Rattle.lift_grid.specs.Rectangle.{spans_of}
use Rattle.cert_check.proofs.leaf.Asked.test_reject.Given as goal

abbrev pub ghost-rejects : goal.ghost-rejects
ghost-rejects a = spans_of a.sides.now
