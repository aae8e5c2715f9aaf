use Rattle.rounded_iter.specs.Watching.{from_zero}
use Rattle.rounded_iter.proofs.table.Table.rise.Given as goal

abbrev pub ghost-climb : goal.ghost-climb
ghost-climb g a = from_zero g.spans
