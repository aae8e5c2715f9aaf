use Rattle.std.proofs.Common.{◌≡◌, map, drop}
use Rattle.lift_grid.specs.Region.{given}
use Rattle.lift_grid.specs.Parts.{ratios_of}
use Rattle.lift_grid.proofs.intervals.given.Given as goal

abbrev pub invariant-loop-interval : goal.invariant-loop-interval
invariant-loop-interval l = given (map ratios_of (drop l.interval-index l.intervals)) l.parameter ≡ given (map ratios_of l.intervals) l.parameter
