use Rattle.lift_grid.specs.Rectangle.{spans_of}
use Rattle.cert_check.proofs.leaf.Asked.test_accept.Given as goal

abbrev pub ghost-accepts : goal.ghost-accepts
ghost-accepts a = spans_of a.sides.now
