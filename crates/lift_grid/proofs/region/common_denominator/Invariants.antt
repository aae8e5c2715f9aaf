use Rattle.std.proofs.Common.{◌≡◌, map, take, min}
use Rattle.lift_frac.specs.Limits.{size_limit}
use Rattle.lift_grid.specs.Region.{common_denominator}
use Rattle.lift_grid.specs.Parts.{ratios_of}
use Rattle.lift_grid.proofs.region.common_denominator.Given as goal

abbrev pub invariant-loop-interval : goal.invariant-loop-interval
invariant-loop-interval l = l.d ≡ min size_limit (common_denominator (map ratios_of (take l.interval-index l.intervals)))
