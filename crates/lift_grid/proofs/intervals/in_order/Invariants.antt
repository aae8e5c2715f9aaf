use Rattle.std.proofs.Common.{◌≡◌, map, Ok}
use Rattle.lift_grid.specs.Region.{in_order}
use Rattle.lift_grid.specs.Parts.{ratios_of}
use Rattle.lift_grid.proofs.intervals.in_order.Given as goal

abbrev pub invariant-loop-parameter : goal.invariant-loop-parameter
invariant-loop-parameter l = in_order (map ratios_of l.intervals) l.parameter ≡ Ok (map ratios_of l.ordered.items)
