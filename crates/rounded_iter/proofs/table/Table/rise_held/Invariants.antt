use Rattle.rounded_iter.specs.Watching.{from_zero}
use Rattle.rounded_iter.proofs.table.Table.rise_held.Given as goal

abbrev pub ghost-raise_components : goal.ghost-raise_components
ghost-raise_components g a = from_zero g.spans

abbrev pub ghost-rise : goal.ghost-rise
ghost-rise g a = g.spans
