use Rattle.std.proofs.Common.{◌≡◌}
use Rattle.view_map.specs.Choice.{cuts_below}
use Rattle.view_map.proofs.choice.cuts_of.Given as goal

abbrev pub invariant-loop-parameter : goal.invariant-loop-parameter
invariant-loop-parameter l = l.cuts.items ≡ cuts_below l.fn.head l.axes l.given l.parameter
